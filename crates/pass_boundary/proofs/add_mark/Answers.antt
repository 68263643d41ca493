-- `pass_boundary::add_mark` meets its contract: each return follows from the calls on its way; the laws are in proofs/Steps.
use Rattle.pass_boundary.proofs.Steps.{added-one}
use mathlib.Core.Path.{refl, ◌∙◌}
use Rattle.pass_boundary.proofs.add_mark.Goals as goal

pub returns : goal.returns
returns c =
    added-one c.requires.0 c.requires.1.0 c.requires.1.1 c.first_of-first.ensures (c.add-sum.ensures ∙ rw c.load.ensures) c.store.ensures c.store-2.ensures refl
