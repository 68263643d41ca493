use Rattle.linear_rows.proofs.Loops.{rows_to}
use Rattle.linear_cells.specs.Cell.{put_c}
use mathlib.Core.Path.{◌≡◌}
use Prim.Native.Nat.{◌≤◌, ◌-◌}
use lib.ListN.{length}
use Rattle.linear_rows.proofs.apply.Given as goal

abbrev pub invariant-loop-v : goal.invariant-loop-v
invariant-loop-v l =
    (l.v-end ≡ l.h.size) × (l.v ≤ l.h.size) × (length l.work ≡ length l.initial.work) × (l.work ≡ put_c l.initial.work l.y (rows_to l.initial.work l.y l.x l.h l.from l.to l.v))

abbrev pub decreases-loop-v : goal.decreases-loop-v
decreases-loop-v l = l.v-end - l.v
