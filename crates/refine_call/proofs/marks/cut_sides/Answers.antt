-- `refine_call::marks::cut_sides` meets its contract: flags, and the sides of the flagged triangles in a table that was cleared; the laws are in proofs/Marking.
use Rattle.refine_call.proofs.Marking.{none-flagged, some-flagged, cut-room}
use Rattle.refine_call.proofs.marks.cut_sides.Goals as goal

pub returns-then-flagged-eq0 : goal.returns-then-flagged-eq0
returns-then-flagged-eq0 c = none-flagged c.put_flags-flagged.ensures c.if-flagged-eq0.true

pub cut_all-sides-requires : goal.cut_all-sides-requires
cut_all-sides-requires c = let all = cut-room c.put_flags-flagged.ensures _ _ _ c.requires c.if-flagged-eq0.false c.fill.ensures in record { held_in_two = all.0; marks_room = all.1 }

pub returns : goal.returns
returns c =
    some-flagged c.put_flags-flagged.ensures c.fill.ensures c.cut_all-sides.ensures
