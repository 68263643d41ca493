-- `geometry::hat_gradient` meets its contract: each return opens the definition and rewrites it by the tests and the calls on its way.
use Rattle.geometry.specs.Triangle.{hat_gradient}
use Rattle.geometry.proofs.hat_gradient.Goals as goal

pub returns : goal.returns
unfolding hat_gradient
returns c = simp (c.scale2.ensures, c.rotate_90.ensures, c.sub2.ensures)
