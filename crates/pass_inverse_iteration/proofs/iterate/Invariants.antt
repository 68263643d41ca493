use mathlib.Core.Path.{◌≡◌}
use Prim.Native.Nat.{◌≤◌, ◌-◌}
use lib.ListN.{length}
use Rattle.pass_inverse_iteration.proofs.Iterations.{Reached}
use Rattle.pass_inverse_iteration.proofs.iterate.Given as goal

abbrev pub invariant-loop-i : goal.invariant-loop-i
invariant-loop-i l =
    (l.i ≤ l.iterations) × (length l.work ≡ length l.initial.work) × Reached l.p l.initial.work l.from l.to l.o l.iterations l.work l.i

abbrev pub decreases-loop-i : goal.decreases-loop-i
decreases-loop-i l = l.iterations - l.i
