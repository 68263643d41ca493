-- `replay_solves::row::ask` meets its contract: the call is as recorded, or not.
use Rattle.replay_solves.specs.Solve.{solve_on}
use Rattle.replay_solves.proofs.Asked.{answered, unanswered, other-angles}
use Rattle.replay_solves.proofs.row.ask.Goals as goal

pub returns-then-not-same_outcome : goal.returns-then-not-same_outcome
unfolding solve_on
returns-then-not-same_outcome c = unanswered _ c.call-outcome.ensures c.same_outcome.ensures c.if-not-same_outcome.true

pub returns-then-same_angles : goal.returns-then-same_angles
unfolding solve_on
returns-then-same_angles c =
    answered _ c.call-outcome.ensures c.same_outcome.ensures c.if-not-same_outcome.false c.same_angles.ensures c.if-same_angles.true c.same_work.ensures

pub returns : goal.returns
unfolding solve_on
returns c =
    other-angles _ c.call-outcome.ensures c.same_outcome.ensures c.if-not-same_outcome.false c.same_angles.ensures c.if-same_angles.false
