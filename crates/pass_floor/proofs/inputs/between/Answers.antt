-- `pass_floor::inputs::between` meets its contract: each arm opens the definition by the kind that it was told.
use Rattle.pass_floor.specs.Planes.{mean_of}
use mathlib.Core.Path.{◌∙◌}
use Rattle.pass_floor.proofs.inputs.between.Goals as goal

pub returns-in-Half : goal.returns-in-Half
unfolding mean_of
returns-in-Half c = c.half_sum.ensures ∙ rw c.in-Half.is

pub returns-in-Angle : goal.returns-in-Angle
unfolding mean_of
returns-in-Angle c = c.mid_angle.ensures ∙ rw c.in-Angle.is
