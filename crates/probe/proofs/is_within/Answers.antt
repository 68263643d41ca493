-- `probe::is_within` meets its contract: each return opens the definition and rewrites it by the tests and the calls on its way.
use Rattle.probe.specs.Weights.{within}
use Rattle.probe.proofs.is_within.Goals as goal

pub returns-then-w : goal.returns-then-w
unfolding within
returns-then-w c = simp c.if-w.true

pub returns : goal.returns
unfolding within
returns c = simp c.if-w.false
