-- `pass_terms::correction` meets its contract: each return opens the definition at its test.
use lib.Ieee.{of_int, of_bits}
use Rattle.pass_terms.specs.Terms.{correction_in, correction_of}
use Rattle.pass_terms.proofs.correction.Goals as goal

pub returns-then-holomorphic : goal.returns-then-holomorphic
unfolding correction_in correction_of
returns-then-holomorphic c = simp c.if-holomorphic.true

pub returns : goal.returns
unfolding correction_in correction_of of_int of_bits
returns c = simp c.if-holomorphic.false
