use Rattle.edges.specs.Table.{hold_of}
use Rattle.edges.specs.TwoSlices.{lo_at, hi_at, under_at, HeldInTwo}
use Rattle.edges.proofs.Tree.{left_at, Going}
use Rattle.edges.proofs.two_slices.walk.Given as goal

abbrev pub invariant-loop-at : goal.invariant-loop-at
invariant-loop-at l =
    HeldInTwo l.t.base l.t.buckets l.ends l.links l.t.sides
    × Going l.t.base l.t.buckets (lo_at l.ends) (hi_at l.ends) (hold_of l.links) (under_at l.t.base l.t.buckets) l.t.sides l.a l.b l.position l.rest l.at

abbrev pub decreases-loop-at : goal.decreases-loop-at
decreases-loop-at l = left_at l.t.sides l.at
