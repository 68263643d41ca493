-- `linear_layers::solve` meets its contract: each return opens the definition and rewrites it by the tests and the calls on its way; the laws are in proofs/Tests.
use Rattle.linear_layers.proofs.Tests.{solve-refused, solve-roomless, solve-solved, run-needs}
use Rattle.linear_layers.proofs.solve.Goals as goal

pub returns-then-not-is_good : goal.returns-then-not-is_good
returns-then-not-is_good c = solve-refused _ _ _ _ _ _ _ c.is_good.ensures c.if-not-is_good.true

pub returns-then-not-has_room : goal.returns-then-not-has_room
returns-then-not-has_room c = solve-roomless _ _ _ _ _ _ _ c.is_good.ensures c.if-not-is_good.false c.has_room.ensures c.if-not-has_room.true

pub run-requires : goal.run-requires
run-requires c = let all = run-needs c.args.work.now _ _ _ c.args.numbers.now c.args.tolerance c.args.most c.is_good.ensures
    c.if-not-is_good.false c.has_room.ensures c.if-not-has_room.false in record { to_value = all.0; from_value = all.1 }

pub returns : goal.returns
returns c =
    solve-solved _ _ _ _ _ _ _ c.is_good.ensures c.if-not-is_good.false c.has_room.ensures c.if-not-has_room.false c.run.ensures
