-- `pass_constraints::penalise_diagonal` meets its contract: the loop keeps what `Inv-loop` says, and what is left to do falls at each iteration; the laws are in proofs/Loops.
use borrow.Author.Rules.{rules}
use Prim.Native.Nat.{◌-◌}
use Rattle.pass_constraints.proofs.Loops.{penalise-none, penalise-again, penalise-done}
use Rattle.pass_constraints.proofs.penalise_diagonal.Goals as goal

pub loop-i-init : goal.loop-i-init
loop-i-init c = search (penalise-none, rules)

pub penalise_at-requires : goal.penalise_at-requires
penalise_at-requires c = (search rules, (search rules, search rules))

pub loop-i-preserved : goal.loop-i-preserved
loop-i-preserved c =
    (search rules, (search rules, penalise-again _ c.args.l _ _ c.requires.1 _ c.loop-i-test.true c.loop-i.invariant.1.1 c.penalise_at.ensures))

pub returns : goal.returns
returns c = search penalise-done
