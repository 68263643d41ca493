-- `probe::visit_triangle` meets its contract: each return opens the definition and rewrites it by the tests and the calls on its way.
use Rattle.probe.specs.Probe.{visit_at}
use Rattle.probe.proofs.visit_triangle.Goals as goal

pub returns : goal.returns
unfolding visit_at
returns c = simp (c.visit_points.ensures, c.index-k.ensures, c.index-j.ensures, c.index-i.ensures, c.corners-c.ensures)
