-- `geometry::transport_coefficient` meets its contract: each return opens the definition and rewrites it by the tests and the calls on its way.
use Rattle.geometry.specs.Edge.{transport_of}
use Rattle.geometry.proofs.transport_coefficient.Goals as goal
use Rattle.geometry.proofs.transport_coefficient.Goals.{then-not-is_finite-via-then-not-is_finite, then-not-is_finite-via-else-not-is_finite+then-sigma}

pub returns-then-not-is_finite : goal.returns-then-not-is_finite
unfolding transport_of
returns-then-not-is_finite c =
    elim c.then-not-is_finite.branch [
      | then-not-is_finite-via-then-not-is_finite w ↦ simp (← c.is_finite.ensures, w.if-not-is_finite.true)
      | then-not-is_finite-via-else-not-is_finite+then-sigma w ↦ simp (← c.is_finite.ensures, w.if-not-is_finite.false, w.if-sigma.true)
    ]

pub returns : goal.returns
unfolding transport_of
returns c = simp (← c.is_finite.ensures, c.if-not-is_finite.false, c.if-sigma.false, ← c.transport_angle.ensures, c.from_angle.ensures)
