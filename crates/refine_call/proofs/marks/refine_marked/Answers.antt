-- `refine_call::marks::refine_marked` meets its contract: the pieces that the marks give are those of the definition; the law is in proofs/Splitting.
use Rattle.refine_call.proofs.Splitting.{refined-marked}
use Rattle.refine_call.proofs.marks.refine_marked.Goals as goal

pub returns : goal.returns
returns c =
    refined-marked c.requires.pieces_room.1 c.mark_all-pieces.ensures c.split_all.ensures
