-- `replay_refinements::floors::ask` meets its contract: the call is as recorded, or not.
use Rattle.replay_refinements.specs.Floors.{refinement_on}
use Rattle.replay_refinements.proofs.Asked.{answered, unanswered}
use Rattle.replay_refinements.proofs.floors.ask.Goals as goal

pub returns-then-same_answer : goal.returns-then-same_answer
unfolding refinement_on
returns-then-same_answer c =
    answered c.call-answer.ensures c.same_answer.ensures c.if-same_answer.true c.same_floor.ensures

pub returns : goal.returns
unfolding refinement_on
returns c = unanswered c.call-answer.ensures c.same_answer.ensures c.if-same_answer.false
