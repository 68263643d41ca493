-- `geometry::judge` meets its contract: each return opens the definition and rewrites it by the tests and the calls on its way.
use Rattle.geometry.specs.Triangle.{placed, degenerate}
use Rattle.geometry.proofs.judge.Goals as goal
use Rattle.geometry.proofs.judge.Goals.{then-not-is_finite-via-then-not-is_finite, then-not-is_finite-via-else-not-is_finite+then-area-longest}

pub returns-then-not-is_finite : goal.returns-then-not-is_finite
unfolding placed degenerate
returns-then-not-is_finite c =
    elim c.then-not-is_finite.branch [
      | then-not-is_finite-via-then-not-is_finite w ↦ simp (← c.is_finite.ensures, w.if-not-is_finite.true)
      | then-not-is_finite-via-else-not-is_finite+then-area-longest w ↦
          simp (← c.is_finite.ensures, ← c.longest_squared_side-longest.ensures, w.if-not-is_finite.false, w.if-area-longest.true)
    ]

pub returns : goal.returns
unfolding placed degenerate
returns c = simp (← c.is_finite.ensures, ← c.longest_squared_side-longest.ensures, c.if-not-is_finite.false, c.if-area-longest.false)
