-- `complex::Complex::mul` meets its contract: each return opens the definition and rewrites it by the tests and the calls on its way.
use mathlib.Core.Path.{refl}
use Rattle.complex.specs.Complex.{cmul}
use Rattle.complex.proofs.Complex.mul.Goals as goal

pub returns : goal.returns
unfolding cmul
returns c = refl
