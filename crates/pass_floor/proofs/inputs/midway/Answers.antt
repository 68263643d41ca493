-- `pass_floor::inputs::midway` meets its contract: what its calls ensure.
use Rattle.pass_floor.specs.Planes.{midway_at}
use mathlib.Core.Path.{◌∙◌}
use Rattle.pass_floor.proofs.inputs.midway.Goals as goal

pub returns : goal.returns
unfolding midway_at
returns c = c.half_sum.ensures ∙ rw (c.given-2.ensures, c.given.ensures, c.row-at.ensures)
