use mathlib.Core.Path.{◌≡◌}
use Prim.Native.Nat.{◌+◌, ◌-◌, ◌≤◌}
use lib.ListN.{length}
use Rattle.linear_packing.proofs.Interleaving.{pair_to}
use Rattle.linear_packing.proofs.interleave_pair.Given as goal

abbrev pub invariant-loop-j : goal.invariant-loop-j
invariant-loop-j l =
    (l.j-end ≡ l.p + l.q) × (l.j ≤ l.j-end) × (length l.u ≡ length l.initial.u) × (l.u ≡ pair_to l.initial.u l.copy l.source l.v l.k l.p l.q l.j)

abbrev pub decreases-loop-j : goal.decreases-loop-j
decreases-loop-j l = l.j-end - l.j
