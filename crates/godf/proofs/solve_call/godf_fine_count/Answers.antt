-- `godf::solve_call::godf_fine_count` meets its contract: each return opens the definition and rewrites it by the tests and the calls on its way.
use mathlib.Core.Path.{ap}
use Rattle.godf.specs.declared.solve_call.Most.{Most}
use Rattle.godf.proofs.solve_call.godf_fine_count.Goals as goal

pub returns-then-threshold : goal.returns-then-threshold
returns-then-threshold c = rw c.if-threshold.true (ap (λ (m : Most). m.points) c.most_of.ensures.0)

pub returns : goal.returns
returns c = rw c.if-threshold.false
