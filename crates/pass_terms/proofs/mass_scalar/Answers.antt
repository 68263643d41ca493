-- `pass_terms::mass_scalar` meets its contract: each return opens the definition and rewrites it by the tests and the calls on its way.
use lib.Ieee.{of_int, of_bits}
use Rattle.pass_terms.specs.Terms.{mass_scalar}
use Rattle.pass_terms.proofs.mass_scalar.Goals as goal

pub returns-in-Some : goal.returns-in-Some
unfolding mass_scalar
returns-in-Some c = simp (c.mass_by.ensures, c.in-Some.is)

pub returns-in-None : goal.returns-in-None
unfolding mass_scalar of_int of_bits
returns-in-None c = simp (c.new.ensures, c.in-None.is)
