-- `calls::most_points` meets its contract: each return opens the definition and rewrites it by the tests and the calls on its way.
use native.Mathlib.Omega.{arith}
use Rattle.calls.specs.Checks.{most_points}
use Rattle.calls.proofs.most_points.Goals as goal

pub returns-then-adaptive : goal.returns-then-adaptive
unfolding most_points
returns-then-adaptive c = (rw c.if-adaptive.true, omega arith)

pub returns : goal.returns
unfolding most_points
returns c = (rw c.if-adaptive.false, omega arith)
