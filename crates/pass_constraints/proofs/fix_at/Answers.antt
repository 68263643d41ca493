-- `pass_constraints::fix_at` meets its contract: each return opens the definition and rewrites it by the calls on its way.
use mathlib.Core.Path.{◌∙◌}
use Rattle.pass_constraints.specs.Constraints.{fixed_at}
use Rattle.pass_constraints.specs.Work.{fix_c}
use Rattle.pass_constraints.proofs.fix_at.Goals as goal

pub returns : goal.returns
unfolding fix_c fixed_at
returns c =
    c.store_real.ensures ∙ rw (c.pick_real.ensures, c.load_real-d.ensures, c.is_on-yes.ensures)
