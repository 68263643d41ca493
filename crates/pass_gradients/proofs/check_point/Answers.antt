-- `pass_gradients::check_point` meets its contract: each return follows from the tests and the calls on its way.
use mathlib.Core.Path.{ap}
use Rattle.std.specs.Prelude.{Err}
use Rattle.pass_gradients.specs.Gradients.{row_of}
use Rattle.pass_gradients.proofs.check_point.Goals as goal

pub returns-then-not_positive : goal.returns-then-not_positive
unfolding row_of
returns-then-not_positive c = rw (← c.not_positive.ensures, c.if-not_positive.true) (ap Err c.refused.ensures)

pub returns-then-not_finite : goal.returns-then-not_finite
unfolding row_of
returns-then-not_finite c =
    rw (← c.not_positive.ensures, c.if-not_positive.false, ← c.not_finite.ensures, c.if-not_finite.true) (ap Err c.refused-then-not_finite.ensures)

pub returns : goal.returns
unfolding row_of
returns c = rw (← c.not_positive.ensures, c.if-not_positive.false, ← c.not_finite.ensures, c.if-not_finite.false)
