use mathlib.Core.Path.{◌≡◌}
use Prim.Native.Nat.{◌-◌, ◌≤◌}
use lib.ListN.{length}
use Rattle.linear_packing.proofs.Making.{neighbours_to}
use Rattle.linear_packing.proofs.neighbours.Given as goal

abbrev pub invariant-loop-k : goal.invariant-loop-k
invariant-loop-k l =
    (l.k-end ≡ l.copy.slots) × (l.k ≤ l.k-end) × (length l.u ≡ length l.initial.u) × (l.u ≡ neighbours_to l.initial.u l.copy l.source l.k)

abbrev pub decreases-loop-k : goal.decreases-loop-k
decreases-loop-k l = l.k-end - l.k
