-- `edges::two_slices::meet_triangle` meets its contract: three sides are met, one after the other; the law is in proofs/TwoSlices.
use Rattle.edges.proofs.TwoSlices.{met-three}
use Rattle.edges.proofs.two_slices.meet_triangle.Goals as goal

pub returns : goal.returns
returns c =
    met-three _ _ _ c.meet_side-p.ensures c.meet_side-q.ensures c.meet_side-r.ensures
