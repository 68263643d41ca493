-- `plane::twice_signed_area` meets its contract: each return opens the definition and rewrites it by the tests and the calls on its way.
use Rattle.plane.specs.Pair.{orientation}
use Rattle.plane.proofs.twice_signed_area.Goals as goal

pub returns : goal.returns
unfolding orientation
returns c = simp (c.cross2.ensures, c.sub2-2.ensures, c.sub2.ensures)
