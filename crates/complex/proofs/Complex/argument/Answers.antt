-- `complex::Complex::argument` meets its contract: each return opens the definition and rewrites it by the tests and the calls on its way.
use Rattle.complex.specs.Complex.{argument_of}
use Rattle.complex.proofs.Complex.argument.Goals as goal

pub returns : goal.returns
unfolding argument_of
returns c = c.atan2.ensures
