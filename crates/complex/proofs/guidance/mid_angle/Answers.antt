-- `complex::guidance::mid_angle` meets its contract: each return opens the definition and rewrites it by the tests and the calls on its way.
use mathlib.Core.Path.{◌∙◌}
use Rattle.complex.specs.Guidance.{mid_angle}
use Rattle.complex.proofs.guidance.mid_angle.Goals as goal

pub returns : goal.returns
unfolding mid_angle
returns c = c.mean_or.ensures ∙ rw (c.add.ensures, c.fourfold_direction-second.ensures, c.fourfold_direction-first.ensures)
