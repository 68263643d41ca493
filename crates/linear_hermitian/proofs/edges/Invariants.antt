use Rattle.linear_hermitian.proofs.Product.{edges_to}
use Rattle.linear_cells.specs.Cell.{put_c}
use mathlib.Core.Path.{◌≡◌}
use Prim.Native.Nat.{◌≤◌, ◌-◌}
use lib.ListN.{length}
use Rattle.linear_hermitian.proofs.edges.Given as goal

abbrev pub invariant-loop-e : goal.invariant-loop-e
invariant-loop-e l =
    (l.e-end ≡ length l.from) × (l.e ≤ length l.from) × (length l.work ≡ length l.initial.work) × (l.work ≡ put_c l.initial.work l.y (edges_to l.initial.work l.y l.x l.h l.from l.to l.e))

abbrev pub decreases-loop-e : goal.decreases-loop-e
decreases-loop-e l = l.e-end - l.e
