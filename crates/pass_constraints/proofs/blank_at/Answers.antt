-- `pass_constraints::blank_at` meets its contract: each return opens the definition and rewrites it by the calls on its way.
use mathlib.Core.Path.{◌∙◌}
use Rattle.pass_constraints.specs.Constraints.{blanked_at}
use Rattle.pass_constraints.specs.Work.{blank_c}
use Rattle.pass_constraints.proofs.blank_at.Goals as goal

pub returns : goal.returns
unfolding blank_c blanked_at
returns c =
    c.store.ensures ∙ rw (c.pick.ensures, c.load-z.ensures, c.is_on-yes.ensures)
