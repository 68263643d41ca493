-- `pass_floor::inputs::value` meets its contract: a value that is given, or the mean on a cut side; the laws are in proofs/Points.
use Rattle.pass_floor.proofs.Points.{old_value, new-value}
use mathlib.Core.Path.{◌∙◌}
use native.Mathlib.Omega.{arith}
use borrow.Author.Tests.{ltb-true, ltb-false}
use Rattle.pass_floor.proofs.inputs.value.Goals as goal

pub returns-then-v-n : goal.returns-then-v-n
returns-then-v-n c = old_value c.args.kind _ _ _ (omega (arith, ltb-true))

pub returns : goal.returns
returns c =
    c.mean_on.ensures ∙ new-value _ _ c.args.table c.args.numbers.now _ (omega (arith, ltb-false)) c.requires.1
