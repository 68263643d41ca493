-- `pass_terms::mass_corner` meets its contract: each return opens the definition and rewrites it by the tests and the calls on its way.
use lib.Ieee.{of_int, of_bits}
use mathlib.Core.Path.{refl}
use Rattle.pass_terms.specs.Terms.{mass_corner}
use Rattle.pass_terms.proofs.mass_corner.Goals as goal

pub returns : goal.returns
unfolding mass_corner of_int of_bits
returns c = refl
