-- `geometry::triangle_geometry` meets its contract: each return opens the definition and rewrites it by the tests and the calls on its way.
use Rattle.geometry.specs.Triangle.{geometry, area_of}
use Rattle.geometry.proofs.triangle_geometry.Goals as goal

pub returns-then-twice : goal.returns-then-twice
unfolding geometry area_of
returns-then-twice c = simp (← c.twice_signed_area-twice.ensures, ← c.abs-area.ensures, c.if-twice.true, c.judge.ensures)

pub returns : goal.returns
unfolding geometry area_of
returns c = simp (← c.twice_signed_area-twice.ensures, ← c.abs-area.ensures, c.if-twice.false, c.judge-2.ensures)
