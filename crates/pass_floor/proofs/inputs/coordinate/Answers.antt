-- `pass_floor::inputs::coordinate` meets its contract: an old point, or the midpoint of a cut side; the laws are in proofs/Points.
use Rattle.pass_floor.proofs.Points.{old-coordinate, new-coordinate}
use mathlib.Core.Path.{◌∙◌}
use native.Mathlib.Omega.{arith}
use borrow.Author.Tests.{ltb-true, ltb-false}
use Rattle.pass_floor.proofs.inputs.coordinate.Goals as goal

pub returns-then-v-n : goal.returns-then-v-n
returns-then-v-n c =
    c.read.ensures ∙ old-coordinate _ _ _ _ c.requires.0.x-or-y c.requires.0.whole (omega (arith, ltb-true))

pub returns : goal.returns
returns c =
    c.midway.ensures ∙ new-coordinate _ _ _ _ _ c.requires.0.x-or-y c.requires.0.whole (omega (arith, ltb-false)) c.requires.1
