-- `singularities::winding_of` meets its contract: each return opens the definition and rewrites it by the tests and the calls on its way.
use Rattle.singularities.specs.Charge.{winding}
use Rattle.singularities.proofs.winding_of.Goals as goal

pub returns : goal.returns
unfolding winding
returns c = simp (c.wrap_to_pi-ca.ensures.value, c.wrap_to_pi-bc.ensures.value, c.wrap_to_pi-ab.ensures.value)
