-- `pass_geometries::geometry_of` meets its contract: each return follows from the tests and the calls on its way.
use mathlib.Core.Path.{◌∙◌}
use Rattle.pass_geometries.proofs.geometry_of.Goals as goal

pub returns : goal.returns
returns c = c.triangle_geometry.ensures ∙ rw (c.position-c.ensures, c.position-b.ensures, c.position-a.ensures)
