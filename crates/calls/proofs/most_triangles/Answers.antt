-- `calls::most_triangles` meets its contract: each return opens the definition and rewrites it by the tests and the calls on its way.
use native.Mathlib.Omega.{arith}
use Rattle.calls.specs.Checks.{most_triangles}
use Rattle.calls.proofs.most_triangles.Goals as goal

pub returns-then-adaptive : goal.returns-then-adaptive
unfolding most_triangles
returns-then-adaptive c = (rw c.if-adaptive.true, omega arith)

pub returns : goal.returns
unfolding most_triangles
returns c = (rw c.if-adaptive.false, omega arith)
