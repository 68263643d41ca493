-- `probe::visit_corners` meets its contract: each return opens the definition and rewrites it by the tests and the calls on its way.
use Rattle.probe.specs.Probe.{visited}
use Rattle.probe.proofs.visit_corners.Goals as goal

pub returns-then-not-is_usable : goal.returns-then-not-is_usable
unfolding visited
returns-then-not-is_usable c = simp (← c.twice_signed_area-denominator.ensures, ← c.is_usable.ensures, c.if-not-is_usable.true)

pub returns-in_default : goal.returns-in_default
unfolding visited
returns-in_default c =
    simp (← c.twice_signed_area-denominator.ensures, ← c.is_usable.ensures, ← c.weights_of.ensures, c.if-not-is_usable.false, c.in_default.is)

pub returns : goal.returns
unfolding visited
returns c =
    simp (
      ← c.twice_signed_area-denominator.ensures,
      ← c.is_usable.ensures,
      ← c.weights_of.ensures,
      c.if-not-is_usable.false,
      c.in-Some.is,
      c.answer.ensures,
      c.interpolate.ensures,
    )
