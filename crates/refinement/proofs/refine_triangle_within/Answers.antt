-- `refinement::refine_triangle_within` meets its contract: each return follows from the tests and the calls on its way; the laws are in proofs/Stands.
use Rattle.refinement.proofs.Stands.{pieces-put}
use Rattle.refinement.proofs.refine_triangle_within.Goals as goal

pub returns : goal.returns
returns c =
    pieces-put c.args.numbers.now _ c.args.k c.pieces_of-p.ensures c.put_rows.ensures
