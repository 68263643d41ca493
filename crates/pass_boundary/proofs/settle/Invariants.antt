use Prim.Native.Nat.{◌-◌, ◌≤◌}
use mathlib.Core.Path.{◌≡◌}
use lib.ListN.{length}
use Rattle.linear_cells.specs.Cell.{put_c}
use Rattle.pass_boundary.proofs.Whole.{settle_to}
use Rattle.pass_boundary.proofs.settle.Given as goal

abbrev pub invariant-loop-v : goal.invariant-loop-v
invariant-loop-v l =
    (l.v-end ≡ l.p.points) × ((l.v ≤ l.p.points) × ((length l.w ≡ length l.initial.w) × (l.w ≡ put_c l.initial.w l.p.targets (settle_to l.initial.w l.u l.flags l.p l.v))))

abbrev pub decreases-loop-v : goal.decreases-loop-v
decreases-loop-v l = l.p.points - l.v
