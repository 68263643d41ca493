use Rattle.linear_hermitian.proofs.Shift.{shift_real_to}
use Rattle.linear_cells.specs.Region.{put}
use mathlib.Core.Path.{◌≡◌}
use Prim.Native.Nat.{◌≤◌, ◌-◌}
use lib.ListN.{length}
use Rattle.linear_hermitian.proofs.shift_diagonal.Given as goal

abbrev pub invariant-loop-i : goal.invariant-loop-i
invariant-loop-i l =
    (l.i ≤ l.n) × (length l.work ≡ length l.initial.work) × (l.work ≡ put l.initial.work l.y (shift_real_to l.initial.work l.y l.x l.n l.shift l.i))

abbrev pub decreases-loop-i : goal.decreases-loop-i
decreases-loop-i l = l.n - l.i
