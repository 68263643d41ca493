use mathlib.Core.Path.{◌≡◌}
use Prim.Native.Nat.{◌*◌, ◌-◌, ◌/◌, ◌≤◌}
use lib.ListN.{length}
use Rattle.linear_packing.proofs.Making.{marks_to}
use Rattle.linear_packing.proofs.marks.Given as goal

abbrev pub invariant-loop-v : goal.invariant-loop-v
invariant-loop-v l =
    (l.v-end ≡ 2 * (l.copy.size / 2)) × (l.v ≤ l.v-end) × (length l.u ≡ length l.initial.u) × (l.u ≡ marks_to l.initial.u l.copy l.source l.v)

abbrev pub decreases-loop-v : goal.decreases-loop-v
decreases-loop-v l = l.v-end - l.v
