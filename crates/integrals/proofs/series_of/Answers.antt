-- `integrals::series_of` meets its contract: the definition is its body.
use lib.Ieee.{of_int, of_bits}
use mathlib.Core.Path.{refl}
use Rattle.integrals.specs.Factors.{series_of}
use Rattle.integrals.proofs.series_of.Goals as goal

pub returns : goal.returns
unfolding series_of of_int of_bits
returns c = refl
