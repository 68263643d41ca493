-- `geometry::triangle_gradient` meets its contract: each return opens the definition and rewrites it by the tests and the calls on its way.
use Rattle.geometry.specs.Triangle.{gradient}
use Rattle.geometry.proofs.triangle_gradient.Goals as goal

pub returns : goal.returns
unfolding gradient
returns c =
    simp (c.hat_gradient-g2.ensures, c.hat_gradient-g1.ensures, c.hat_gradient-g0.ensures, c.recip-inverse_two_area.ensures)
