use mathlib.Core.Path.{◌≡◌}
use Prim.Native.Nat.{◌≤◌, ◌-◌}
use Rattle.linear_pairs.specs.Sums.{slot_terms}
use Rattle.linear_pairs.proofs.terms.Given as goal

abbrev pub invariant-loop-c : goal.invariant-loop-c
invariant-loop-c l = (l.c ≤ l.m) × (l.sum ≡ slot_terms l.work l.u l.copy l.x l.k l.c l.initial.sum)

abbrev pub decreases-loop-c : goal.decreases-loop-c
decreases-loop-c l = l.m - l.c
