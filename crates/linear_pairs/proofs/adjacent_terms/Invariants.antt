use mathlib.Core.Path.{◌≡◌}
use Prim.Native.Nat.{◌+◌, ◌*◌, ◌-◌, ◌/◌, ◌%◌, ◌≤◌}
use Rattle.linear_pairs.specs.Sums.{pair_terms}
use Rattle.linear_pairs.proofs.adjacent_terms.Given as goal

abbrev pub invariant-loop-j : goal.invariant-loop-j
invariant-loop-j l =
    (l.end ≡ l.k + 2 * l.m) × (l.k ≤ l.j) × (l.j ≤ l.end) × ((l.j - l.k) % 2 ≡ 0) × (l.sums ≡ pair_terms l.work l.u l.copy l.x l.k ((l.j - l.k) / 2) l.initial.sums)

abbrev pub decreases-loop-j : goal.decreases-loop-j
decreases-loop-j l = l.end - l.j
