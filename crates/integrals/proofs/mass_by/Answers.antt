-- `integrals::mass_by` meets its contract: the variant says which form serves (proofs/Serve).
use Rattle.integrals.specs.Integrals.{mass_integral}
use Rattle.integrals.specs.Factors.{closed_of}
use Rattle.integrals.proofs.Serve.{series-serve, closed-serve}
use Rattle.integrals.proofs.mass_by.Goals as goal

pub mass_closed-requires : goal.mass_closed-requires
unfolding closed_of
mass_closed-requires c = rw (closed-serve _ _ _ c.requires c.in-Closed.is).1

pub returns-in-Series : goal.returns-in-Series
unfolding mass_integral
returns-in-Series c = simp (c.mass_series.ensures, (series-serve _ _ _ c.requires c.in-Series.is).0)

pub returns-in-Closed : goal.returns-in-Closed
unfolding mass_integral
returns-in-Closed c = simp (c.mass_closed.ensures, (closed-serve _ _ _ c.requires c.in-Closed.is).0)
