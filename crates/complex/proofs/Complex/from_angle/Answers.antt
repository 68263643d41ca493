-- `complex::Complex::from_angle` meets its contract: each return opens the definition and rewrites it by the tests and the calls on its way.
use Rattle.complex.specs.Complex.{from_angle}
use Rattle.complex.proofs.Complex.from_angle.Goals as goal

pub returns : goal.returns
unfolding from_angle
returns c = simp c.sin_cos-both.ensures
