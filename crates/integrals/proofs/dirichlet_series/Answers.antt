-- `integrals::dirichlet_series` meets its contract: each return opens the definition and rewrites it by the tests and the calls on its way.
use lib.Ieee.{of_int, of_bits}
use Rattle.integrals.specs.Integrals.{dirichlet_series}
use Rattle.integrals.specs.Factors.{series_of}
use Rattle.integrals.proofs.dirichlet_series.Goals as goal

pub returns : goal.returns
unfolding dirichlet_series series_of of_int of_bits
returns c = simp (c.new.ensures, c.requires)
