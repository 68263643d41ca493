-- `edges::meet_triangle` meets its contract: each return opens the definition and rewrites it by the tests and the calls on its way; the laws are in proofs/Stored.
use Rattle.edges.proofs.Stored.{met-three}
use Rattle.edges.proofs.meet_triangle.Goals as goal

pub returns : goal.returns
returns c =
    met-three _ _ _ c.meet_side-p.ensures c.meet_side-q.ensures c.meet_side-r.ensures
