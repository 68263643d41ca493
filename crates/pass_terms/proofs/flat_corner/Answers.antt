-- `pass_terms::flat_corner` meets its contract: each return opens the definition and rewrites it by the tests and the calls on its way.
use lib.Ieee.{of_int, of_bits}
use Rattle.pass_terms.specs.Terms.{flat_corner}
use Rattle.pass_terms.proofs.flat_corner.Goals as goal

pub returns : goal.returns
unfolding flat_corner of_int of_bits
returns c = cc
