use mathlib.Core.Path.{◌≡◌}
use Rattle.linear_hermitian.proofs.Shift.{trace_to}
use Prim.Native.Nat.{◌≤◌, ◌-◌}
use Rattle.linear_hermitian.proofs.trace.Given as goal

abbrev pub invariant-loop-i : goal.invariant-loop-i
invariant-loop-i l = (l.i ≤ l.n) × (l.sum ≡ trace_to l.work l.diagonal l.n l.i)

abbrev pub decreases-loop-i : goal.decreases-loop-i
decreases-loop-i l = l.n - l.i
