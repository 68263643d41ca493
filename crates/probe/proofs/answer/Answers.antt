-- `probe::answer` meets its contract: each return opens the definition and rewrites it by the tests and the calls on its way.
use Rattle.probe.specs.Weights.{answered}
use Rattle.probe.proofs.answer.Goals as goal

pub returns-then-is_zero : goal.returns-then-is_zero
unfolding answered
returns-then-is_zero c = simp (← c.is_zero.ensures, c.if-is_zero.true)

pub returns : goal.returns
unfolding answered
returns c = simp (← c.is_zero.ensures, c.if-is_zero.false, c.cross_angle.ensures.value)
