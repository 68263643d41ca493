use Rattle.linear_conjugate_gradient.proofs.Iterations.{engine-still, begun_sized}
use Rattle.linear_conjugate_gradient.proofs.Lays.{read-sized}
use Rattle.linear_cells.proofs.Regions.{length-region}
use Rattle.linear_conjugate_gradient.proofs.Lays.{same-room}
use Rattle.linear_conjugate_gradient.proofs.Runs.{solve-norm, solve-diagonal, solve-first, solve-run}
use borrow.Author.Rules.{rules}
use Rattle.linear_conjugate_gradient.proofs.conjugate_gradient.Goals as goal

-- `linear_conjugate_gradient::conjugate_gradient` meets its contract: each return opens the definition and rewrites it by the tests and the calls on its way; the laws are in proofs/Lays, proofs/Runs.

pub returns-then-not_positive : goal.returns-then-not_positive
returns-then-not_positive c = solve-norm _ _ _ _ _ _ _ c.euclidean_norm-norm.ensures c.not_positive.ensures c.if-not_positive.true

pub returns-in-Some : goal.returns-in-Some
returns-in-Some c =
    solve-diagonal _ _ _ _ _ _ _ c.euclidean_norm-norm.ensures c.not_positive.ensures
    c.if-not_positive.false c.first_not_positive.ensures c.in-Some.is

pub returns-then-not_positive-2 : goal.returns-then-not_positive-2
returns-then-not_positive-2 c =
    solve-first _ _ _ _ _ _ _ c.euclidean_norm-norm.ensures c.not_positive.ensures c.if-not_positive.false c.first_not_positive.ensures c.requires.solver_room
    c.in_default.is c.begin-first.ensures c.not_positive-2.ensures c.if-not_positive-2.true

pub iterate-requires : goal.iterate-requires
iterate-requires c = record {
  solver_room = same-room (search rules) _ _ c.requires.solver_room;
  graph = c.requires.graph;
  engine = engine-still _ _ _ _ _ _ _ c.requires.solver_room c.requires.engine _ (begun_sized _ _ _ (length-region _ _ _ _) (read-sized _ _ _))
      c.begin-first.ensures.work;
}

pub returns : goal.returns
returns c =
    solve-run _ _ _ _ _ _ _ c.euclidean_norm-norm.ensures c.not_positive.ensures c.if-not_positive.false c.first_not_positive.ensures c.requires.solver_room c.in_default.is
    c.begin-first.ensures c.not_positive-2.ensures c.if-not_positive-2.false c.iterate.ensures
