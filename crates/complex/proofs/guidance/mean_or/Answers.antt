-- `complex::guidance::mean_or` meets its contract: each return opens the definition and rewrites it by the tests and the calls on its way.
use mathlib.Core.Path.{◌∙◌}
use Rattle.complex.specs.Guidance.{mean_or}
use Rattle.complex.proofs.guidance.mean_or.Goals as goal
use Rattle.complex.proofs.guidance.mean_or.Goals.{else-is_finite-via-then-is_finite+else-size, else-is_finite-via-else-is_finite}

pub returns-then-size : goal.returns-then-size
unfolding mean_or
returns-then-size c = c.cross_angle.ensures.value ∙ rw (← c.norm-size.ensures, ← c.is_finite.ensures, c.if-is_finite.true, c.if-size.true)

pub returns : goal.returns
unfolding mean_or
returns c =
    elim c.else-is_finite.branch [
      | else-is_finite-via-then-is_finite+else-size w ↦ rw (← c.norm-size.ensures, ← c.is_finite.ensures, w.if-is_finite.true, w.if-size.false)
      | else-is_finite-via-else-is_finite w ↦ rw (← c.norm-size.ensures, ← c.is_finite.ensures, w.if-is_finite.false)
    ]
