-- `godf::solve_call::godf_work_f64` meets its contract: each return opens the definition and rewrites it by the tests and the calls on its way.
use Prim.Native.Nat.{◌+◌, ◌*◌}
use mathlib.Core.Path.{ap}
use Rattle.godf.specs.declared.solve_call.Most.{Most}
use Rattle.godf.proofs.solve_call.godf_work_f64.Goals as goal

pub returns : goal.returns
returns c = ap (λ (m : Most). 64 * m.points + 32 * m.triangles) c.most_of-m.ensures.0
