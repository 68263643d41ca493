use mathlib.Core.Path.{◌≡◌}
use Prim.Native.Nat.{◌-◌, ◌≤◌}
use lib.ListN.{length}
use Rattle.linear_cells.specs.Cell.{put_c}
use Rattle.linear_packing.proofs.Making.{entries_to}
use Rattle.linear_packing.proofs.entries.Given as goal

abbrev pub invariant-loop-k : goal.invariant-loop-k
invariant-loop-k l =
    (l.k-end ≡ l.copy.slots) × (l.k ≤ l.k-end) × (length l.work ≡ length l.initial.work) × (l.work ≡ put_c l.initial.work l.copy.entries (entries_to l.initial.work l.u l.h l.copy l.source l.k))

abbrev pub decreases-loop-k : goal.decreases-loop-k
decreases-loop-k l = l.k-end - l.k
