-- `pass_floor::inputs::mean_on` meets its contract: what its calls ensure.
use mathlib.Core.Path.{◌∙◌}
use Rattle.pass_floor.proofs.inputs.mean_on.Goals as goal

pub returns : goal.returns
returns c =
    c.between.ensures ∙ rw (c.read-b.ensures, c.index-2.ensures, c.read-a.ensures, c.index.ensures, c.row-at.ensures)
