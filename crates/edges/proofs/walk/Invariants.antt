use Rattle.edges.specs.Table.{lo_of, hi_of, hold_of, under_of, Held}
use Rattle.edges.proofs.Tree.{left_at, Going}
use Rattle.edges.proofs.walk.Given as goal

abbrev pub invariant-loop-at : goal.invariant-loop-at
invariant-loop-at l =
    Held l.t.base l.t.buckets l.w l.t.sides
    × Going l.t.base l.t.buckets (lo_of l.t.base l.t.buckets l.w) (hi_of l.t.base l.t.buckets l.w) (hold_of l.w) (under_of l.t.base l.t.buckets) l.t.sides l.a l.b l.position l.rest l.at

abbrev pub decreases-loop-at : goal.decreases-loop-at
decreases-loop-at l = left_at l.t.sides l.at
