-- `pass_terms::scale_in` meets its contract: each return opens the definition and rewrites it by the tests and the calls on its way.
use lib.Ieee.{of_int, of_bits}
use Rattle.pass_terms.specs.Terms.{scale_in}
use Rattle.pass_terms.proofs.scale_in.Goals as goal

pub returns-then-accurate : goal.returns-then-accurate
unfolding scale_in
returns-then-accurate c = simp (c.recip.ensures, c.if-accurate.true)

pub returns : goal.returns
unfolding scale_in of_int of_bits
returns c = simp (c.recip-2.ensures, c.if-accurate.false)
