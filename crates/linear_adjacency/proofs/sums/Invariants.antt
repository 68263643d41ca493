use mathlib.Core.Path.{◌≡◌}
use Prim.Native.Nat.{◌≤◌, ◌-◌}
use lib.ListN.{length}
use Rattle.linear_cells.specs.Region.{put}
use Rattle.linear_adjacency.specs.Build.{total}
use Rattle.linear_adjacency.proofs.Summing.{totals_to}
use Rattle.linear_adjacency.proofs.sums.Given as goal

abbrev pub invariant-loop-v : goal.invariant-loop-v
invariant-loop-v l =
    (l.v ≤ l.m) × (length l.w ≡ length l.initial.w) × (l.sum ≡ total l.initial.w l.at l.v) × (l.w ≡ put l.initial.w l.at (totals_to l.initial.w l.at l.m l.v))

abbrev pub decreases-loop-v : goal.decreases-loop-v
decreases-loop-v l = l.m - l.v
