use mathlib.Core.Path.{◌≡◌}
use mathlib.Core.Bool.{true}
use Prim.Native.Nat.{◌≤◌, ◌-◌}
use Rattle.linear_cells.specs.Region.{region}
use Rattle.linear_rows.specs.Rows.{plus_edges, diagonal_at}
use Rattle.linear_rows.specs.Vertex.{pairs_of, lent_matrix, all_inside}
use Rattle.linear_rows.proofs.lent.product_over.Given as goal

abbrev pub invariant-loop-k : goal.invariant-loop-k
invariant-loop-k l =
    (l.k ≤ l.count) × (all_inside (lent_matrix l.diagonal l.off l.from l.to) (pairs_of l.x) l.v (region 0 l.lists l.at l.k) ≡ true) ×
    (l.sum ≡ plus_edges (lent_matrix l.diagonal l.off l.from l.to) (pairs_of l.x) l.v (region 0 l.lists l.at l.k) (diagonal_at (lent_matrix l.diagonal l.off l.from l.to) (pairs_of l.x) l.v))

abbrev pub decreases-loop-k : goal.decreases-loop-k
decreases-loop-k l = l.count - l.k
