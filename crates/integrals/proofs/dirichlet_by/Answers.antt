-- `integrals::dirichlet_by` meets its contract: the variant says which form serves (proofs/Serve).
use Rattle.integrals.specs.Integrals.{dirichlet_integral}
use Rattle.integrals.proofs.Serve.{series-serve, closed-serve}
use Rattle.integrals.proofs.dirichlet_by.Goals as goal

pub dirichlet_series-requires : goal.dirichlet_series-requires
dirichlet_series-requires c = (series-serve _ _ _ c.requires c.in-Series.is).1

pub dirichlet_closed-requires : goal.dirichlet_closed-requires
dirichlet_closed-requires c = (closed-serve _ _ _ c.requires c.in-Closed.is).1

pub returns-in-Series : goal.returns-in-Series
unfolding dirichlet_integral
returns-in-Series c = simp (c.dirichlet_series.ensures, (series-serve _ _ _ c.requires c.in-Series.is).0)

pub returns-in-Closed : goal.returns-in-Closed
unfolding dirichlet_integral
returns-in-Closed c = simp (c.dirichlet_closed.ensures, (closed-serve _ _ _ c.requires c.in-Closed.is).0)
