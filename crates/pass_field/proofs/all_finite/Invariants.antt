use Prim.Native.Nat.{◌≤◌, ◌-◌}
use Rattle.pass_field.proofs.Angles.{FiniteUp}
use Rattle.pass_field.proofs.all_finite.Given as goal

abbrev pub invariant-loop-i : goal.invariant-loop-i
invariant-loop-i l = (l.i ≤ l.n) × FiniteUp l.work l.x l.n l.i

abbrev pub decreases-loop-i : goal.decreases-loop-i
decreases-loop-i l = l.n - l.i
