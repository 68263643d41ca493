-- `complex::Complex::add` meets its contract: each return opens the definition and rewrites it by the tests and the calls on its way.
use mathlib.Core.Path.{refl}
use Rattle.complex.specs.Complex.{cadd}
use Rattle.complex.proofs.Complex.add.Goals as goal

pub returns : goal.returns
unfolding cadd
returns c = refl
