-- `geometry::squared_side` meets its contract: each return opens the definition and rewrites it by the tests and the calls on its way.
use Rattle.geometry.specs.Triangle.{side2}
use Rattle.geometry.proofs.squared_side.Goals as goal

pub returns : goal.returns
unfolding side2
returns c = simp (c.dot2.ensures, c.sub2-s.ensures)
