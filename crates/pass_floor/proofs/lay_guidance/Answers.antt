-- `pass_floor::lay_guidance` meets its contract: the plane is stored where guidance is given.
use Rattle.pass_floor.specs.Lay.{guidance_laid}
use mathlib.Core.Path.{◌∙◌}
use Rattle.pass_floor.proofs.lay_guidance.Goals as goal

pub put_values-requires : goal.put_values-requires
put_values-requires c =
    record { table-in = c.requires.table-in; values-in = c.requires.guidance-in c.if-guided.true }

pub returns-then-guided : goal.returns-then-guided
unfolding guidance_laid
returns-then-guided c = c.put_values.ensures ∙ rw c.if-guided.true

pub returns-else-guided : goal.returns-else-guided
unfolding guidance_laid
returns-else-guided c = rw c.if-guided.false
