-- `complex::Complex::conj` meets its contract: each return opens the definition and rewrites it by the tests and the calls on its way.
use mathlib.Core.Path.{refl}
use Rattle.complex.specs.Complex.{cconj}
use Rattle.complex.proofs.Complex.conj.Goals as goal

pub returns : goal.returns
unfolding cconj
returns c = refl
