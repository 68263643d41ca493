use mathlib.Core.Path.{◌≡◌}
use Prim.Native.Nat.{◌*◌, ◌-◌, ◌/◌, ◌%◌, ◌≤◌}
use lib.ListN.{length}
use Rattle.linear_cells.specs.Cell.{put_c}
use Rattle.linear_adjacency.specs.Adjacency.{start_of}
use Rattle.linear_pairs.proofs.Product.{done_to, dot_to}
use Rattle.linear_pairs.proofs.multiply.Given as goal

abbrev pub invariant-loop-v : goal.invariant-loop-v
invariant-loop-v l =
    (l.end ≡ 2 * (l.copy.size / 2)) × (l.v ≤ l.end) × (l.v % 2 ≡ 0) × (length l.work ≡ length l.initial.work) × (l.work ≡ put_c l.initial.work l.y (done_to l.initial.work l.h l.from l.to l.u l.copy l.x l.y l.v)) × (l.reached.sum ≡ dot_to l.initial.work l.h l.from l.to l.u l.copy l.x l.y l.v)
    × (l.reached.slot ≡ start_of l.from l.to (length l.from) l.v)

abbrev pub decreases-loop-v : goal.decreases-loop-v
decreases-loop-v l = l.end - l.v
