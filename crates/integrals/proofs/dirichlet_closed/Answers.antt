-- `integrals::dirichlet_closed` meets its contract: each return opens the definition and rewrites it by the tests and the calls on its way.
use lib.Ieee.{of_int, of_bits}
use Rattle.integrals.specs.Integrals.{dirichlet_closed}
use Rattle.integrals.specs.Factors.{closed_of}
use Rattle.integrals.proofs.dirichlet_closed.Goals as goal

pub returns : goal.returns
unfolding dirichlet_closed closed_of of_int of_bits
returns c = simp (c.scale.ensures, c.add.ensures, c.new-head.ensures, c.mul-tail.ensures, c.new-front.ensures, c.requires)
