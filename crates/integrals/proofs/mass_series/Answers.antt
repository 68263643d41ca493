-- `integrals::mass_series` meets its contract: each return opens the definition and rewrites it by the tests and the calls on its way.
use lib.Ieee.{of_int, of_bits}
use Rattle.integrals.specs.Integrals.{mass_series}
use Rattle.integrals.proofs.mass_series.Goals as goal

pub returns : goal.returns
unfolding mass_series of_int of_bits
returns c = simp c.new.ensures
