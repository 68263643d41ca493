-- `integrals::mass_closed` meets its contract: each return opens the definition and rewrites it by the tests and the calls on its way.
use lib.Ieee.{of_int, of_bits}
use Rattle.integrals.specs.Integrals.{mass_closed}
use Rattle.integrals.proofs.mass_closed.Goals as goal

pub returns : goal.returns
unfolding mass_closed of_int of_bits
returns c = cc
