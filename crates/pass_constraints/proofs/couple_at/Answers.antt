-- `pass_constraints::couple_at` meets its contract: each return opens the definition and rewrites it by the calls on its way.
use native.Mathlib.Omega.{arith}
use mathlib.Core.Path.{◌∙◌}
use Rattle.pass_constraints.specs.Constraints.{coupled_at}
use Rattle.pass_constraints.specs.Work.{couple_c}
use Rattle.pass_constraints.proofs.couple_at.Goals as goal

pub store-requires : goal.store-requires
store-requires c =
    (c.requires.0, omega (arith, c.requires.0, c.requires.1.1.rhs-in))

pub returns : goal.returns
unfolding couple_c coupled_at
returns c =
    c.store.ensures ∙ rw (c.pick.ensures, c.sub-z.ensures, c.load-2.ensures, c.load.ensures, c.load-target.ensures, c.is_on-yes.ensures)
