-- `refine_call::marks::mark_triangle` meets its contract: a flagged triangle has its marks, any other gets them; the laws are in proofs/Marking.
use native.Mathlib.Omega.{arith}
use Rattle.refine_call.proofs.Marking.{mark-found, mark-put}
use Rattle.refine_call.proofs.marks.mark_triangle.Goals as goal

pub returns-then-marks-at-ne0 : goal.returns-then-marks-at-ne0
returns-then-marks-at-ne0 c = mark-found c.if-marks-at-ne0.true (c.requires.cuts_at c.if-marks-at-ne0.true)

pub put_three-requires : goal.put_three-requires
put_three-requires c =
    omega (arith, c.requires.held_in_two.links-in, c.requires.pieces_room, c.requires.cuts_at)

pub returns : goal.returns
returns c =
    let e = c.corners-c.ensures in mark-put (omega (arith, c.requires.held_in_two.links-in, c.requires.pieces_room, c.requires.cuts_at)) c.if-marks-at-ne0.false
    (rw e at c.mark_of-p.ensures) (rw e at c.mark_of-q.ensures)
    (rw e at c.mark_of-r.ensures) c.put_three.ensures
    c.pieces_with.ensures
