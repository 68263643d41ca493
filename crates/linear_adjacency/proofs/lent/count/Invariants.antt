use mathlib.Core.Path.{◌≡◌}
use Prim.Native.Nat.{◌≤◌, ◌-◌}
use lib.ListN.{length}
use Rattle.linear_cells.specs.Region.{put}
use Rattle.linear_adjacency.specs.Build.{degrees}
use Rattle.linear_adjacency.proofs.lent.count.Given as goal

abbrev pub invariant-loop-e : goal.invariant-loop-e
invariant-loop-e l =
    (l.e-end ≡ length l.from) × (l.e ≤ length l.from) × (length l.w ≡ length l.initial.w) × (l.w ≡ put l.initial.w l.at (degrees l.from l.to l.n l.e))

abbrev pub decreases-loop-e : goal.decreases-loop-e
decreases-loop-e l = l.e-end - l.e
