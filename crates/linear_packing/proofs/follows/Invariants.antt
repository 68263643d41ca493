use Prim.Native.Nat.{◌-◌, ◌≤◌}
use mathlib.Core.Path.{◌≡◌}
use mathlib.Core.Bool.{true}
use Rattle.linear_cells.specs.Region.{region}
use Rattle.linear_packing.specs.Slots.{follow}
use Rattle.linear_packing.proofs.follows.Given as goal

abbrev pub invariant-loop-c : goal.invariant-loop-c
invariant-loop-c l = (l.c ≤ l.m) × (follow (region 0 l.u l.copy.neighbours l.copy.slots) l.k l.c ≡ true)

abbrev pub decreases-loop-c : goal.decreases-loop-c
decreases-loop-c l = l.m - l.c
