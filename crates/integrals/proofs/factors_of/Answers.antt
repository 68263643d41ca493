-- `integrals::factors_of` meets its contract: each return opens the definition and rewrites it by the tests and the calls on its way.
use Rattle.integrals.specs.Factors.{factors_of}
use Rattle.integrals.proofs.factors_of.Goals as goal

pub returns-then-by_series : goal.returns-then-by_series
unfolding factors_of
returns-then-by_series c = simp (← c.by_series.ensures, c.if-by_series.true, c.series_of.ensures)

pub returns : goal.returns
unfolding factors_of
returns c = simp (← c.by_series.ensures, c.if-by_series.false, c.closed_of.ensures)
