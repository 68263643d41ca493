-- `pass_floor::inputs::given` meets its contract: what its calls ensure.
use mathlib.Core.Path.{◌∙◌}
use Rattle.pass_floor.proofs.inputs.given.Goals as goal

pub returns : goal.returns
returns c = c.read.ensures ∙ rw c.index.ensures
