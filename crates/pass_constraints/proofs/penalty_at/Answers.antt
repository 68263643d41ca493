-- `pass_constraints::penalty_at` meets its contract: each return opens the definition and rewrites it by the calls on its way.
use mathlib.Core.Path.{◌∙◌}
use Rattle.pass_constraints.specs.Constraints.{penalty_at}
use Rattle.pass_constraints.specs.Work.{penalty_c}
use Rattle.pass_constraints.proofs.penalty_at.Goals as goal

pub returns : goal.returns
unfolding penalty_c penalty_at
returns c =
    c.store.ensures ∙ rw (c.pick.ensures, c.scale-z.ensures, c.load.ensures, c.load_real.ensures, c.is_on-yes.ensures)
