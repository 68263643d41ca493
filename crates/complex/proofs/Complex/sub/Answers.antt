-- `complex::Complex::sub` meets its contract: each return opens the definition and rewrites it by the tests and the calls on its way.
use mathlib.Core.Path.{refl}
use Rattle.complex.specs.Complex.{csub}
use Rattle.complex.proofs.Complex.sub.Goals as goal

pub returns : goal.returns
unfolding csub
returns c = refl
