-- `refine_call::marks::mark_of` meets its contract: a midpoint is numbered above the points.
use native.Mathlib.Omega.{arith}
use Rattle.mesh.specs.Mesh.{mid}
use Rattle.refine_call.proofs.marks.mark_of.Goals as goal

pub returns-in-Some : goal.returns-in-Some
unfolding mid
returns-in-Some c = rw (← c.in-Some.ensures.0) (omega arith)

pub returns-in-None : goal.returns-in-None
unfolding mid
returns-in-None c = rw (← c.in-None.ensures.0)
