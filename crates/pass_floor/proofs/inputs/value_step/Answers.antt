-- `pass_floor::inputs::value_step` meets its contract: what its calls ensure.
use mathlib.Core.Path.{◌∙◌}
use Rattle.pass_floor.proofs.inputs.value_step.Goals as goal

pub returns : goal.returns
returns c = c.store_real.ensures ∙ rw c.value-x.ensures
