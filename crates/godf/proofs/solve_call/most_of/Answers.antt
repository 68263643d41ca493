-- `godf::solve_call::most_of` meets its contract: each return opens the definition and rewrites it by the tests and the calls on its way.
use native.Mathlib.Omega.{arith}
use borrow.Author.Tests.{lt-ltb, le-ltb}
use Rattle.godf.specs.Solve.{most_of}
use Rattle.godf.proofs.solve_call.most_of.Goals as goal

pub returns-then-n-gt-MOST_POINTS : goal.returns-then-n-gt-MOST_POINTS
unfolding most_of
returns-then-n-gt-MOST_POINTS c = (simp (lt-ltb _ _ c.if-n-gt-MOST_POINTS.true), (omega arith, omega arith))

pub returns-then-triangles-gt-MOST_TRIANGLES : goal.returns-then-triangles-gt-MOST_TRIANGLES
unfolding most_of
returns-then-triangles-gt-MOST_TRIANGLES c = (simp (le-ltb _ _ c.if-n-gt-MOST_POINTS.false, lt-ltb _ _ c.if-triangles-gt-MOST_TRIANGLES.true), (omega arith, omega arith))

pub returns : goal.returns
unfolding most_of
returns c = (simp (le-ltb _ _ c.if-n-gt-MOST_POINTS.false, le-ltb _ _ c.if-triangles-gt-MOST_TRIANGLES.false) (cc (c.most_points-points.ensures.0, c.most_triangles.ensures.0)), (c.most_points-points.ensures.1, c.most_triangles.ensures.1))
