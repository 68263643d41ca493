-- `geometry::transport_angle` meets its contract: each return opens the definition and rewrites it by the tests and the calls on its way.
use Rattle.geometry.specs.Edge.{transport_angle}
use Rattle.geometry.proofs.transport_angle.Goals as goal

pub returns : goal.returns
unfolding transport_angle
returns c = simp (c.atan2.ensures, c.sub2-s.ensures)
