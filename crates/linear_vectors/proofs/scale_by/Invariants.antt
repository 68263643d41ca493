use Rattle.linear_vectors.proofs.Scale.{scale_to}
use Rattle.linear_cells.specs.Cell.{put_c}
use mathlib.Core.Path.{◌≡◌}
use Prim.Native.Nat.{◌≤◌, ◌-◌}
use lib.ListN.{length}
use Rattle.linear_vectors.proofs.scale_by.Given as goal

abbrev pub invariant-loop-i : goal.invariant-loop-i
invariant-loop-i l =
    (l.i ≤ l.n) × (length l.work ≡ length l.initial.work) × (l.work ≡ put_c l.initial.work l.x (scale_to l.initial.work l.x l.n l.k l.i))

abbrev pub decreases-loop-i : goal.decreases-loop-i
decreases-loop-i l = l.n - l.i
