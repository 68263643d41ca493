use mathlib.Core.Path.{◌≡◌}
use Prim.Native.Nat.{◌+◌, ◌-◌, ◌/◌, ◌≤◌}
use lib.ListN.{length}
use Rattle.linear_packing.proofs.Interleaving.{interleaved_to}
use Rattle.linear_packing.proofs.interleave.Given as goal

abbrev pub invariant-loop-g : goal.invariant-loop-g
invariant-loop-g l =
    (l.g-end ≡ (l.copy.size + 1) / 2) × (l.g ≤ l.g-end) × (length l.u ≡ length l.initial.u) × (l.u ≡ interleaved_to l.initial.u l.copy l.source l.g)

abbrev pub decreases-loop-g : goal.decreases-loop-g
decreases-loop-g l = l.g-end - l.g
