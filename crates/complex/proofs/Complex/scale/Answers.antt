-- `complex::Complex::scale` meets its contract: each return opens the definition and rewrites it by the tests and the calls on its way.
use mathlib.Core.Path.{refl}
use Rattle.complex.specs.Complex.{cscale}
use Rattle.complex.proofs.Complex.scale.Goals as goal

pub returns : goal.returns
unfolding cscale
returns c = refl
