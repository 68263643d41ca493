use Rattle.linear_rows.proofs.Loops.{plus_to}
use mathlib.Core.Path.{◌≡◌}
use Prim.Native.Nat.{◌≤◌, ◌-◌}
use Rattle.linear_rows.proofs.plus_edges.Given as goal

abbrev pub invariant-loop-k : goal.invariant-loop-k
invariant-loop-k l = (l.k ≤ l.count) × (l.sum ≡ plus_to l.work l.x l.h l.from l.to l.v l.lists l.at l.initial.sum l.k)

abbrev pub decreases-loop-k : goal.decreases-loop-k
decreases-loop-k l = l.count - l.k
