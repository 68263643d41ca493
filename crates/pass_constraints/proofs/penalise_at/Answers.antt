-- `pass_constraints::penalise_at` meets its contract: each return opens the definition and rewrites it by the calls on its way.
use mathlib.Core.Path.{◌∙◌}
use Rattle.pass_constraints.specs.Constraints.{penalised_at}
use Rattle.pass_constraints.specs.Work.{penalise_c}
use Rattle.pass_constraints.proofs.penalise_at.Goals as goal

pub returns : goal.returns
unfolding penalise_c penalised_at
returns c =
    c.store_real.ensures ∙ rw (c.pick_real.ensures, c.load_real.ensures, c.load_real-d.ensures, c.is_on-yes.ensures)
