-- `integrals::by_series` meets its contract: each return opens the definition and rewrites it by the tests and the calls on its way.
use Rattle.integrals.specs.Integrals.{by_series}
use Rattle.integrals.proofs.by_series.Goals as goal

pub returns : goal.returns
unfolding by_series
returns c = simp c.abs.ensures
