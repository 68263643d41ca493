-- `refine_call::put_pieces` meets its contract: with nothing flagged the triangles stay; the laws are in proofs/Facts.
use native.Mathlib.Omega.{arith}
use Rattle.refine_call.proofs.Facts.{pieces_none, pieces-some}
use Rattle.refine_call.proofs.put_pieces.Goals as goal

pub returns-then-cut-eq0 : goal.returns-then-cut-eq0
returns-then-cut-eq0 c =
    pieces_none c.requires c.if-cut-eq0.true c.copy.ensures

pub overflow_mul-table-2 : goal.overflow_mul-table-2
overflow_mul-table-2 c = record { fits = omega (arith, (c.requires.held c.if-cut-eq0.false).links-in) }

pub refine_marked-requires : goal.refine_marked-requires
refine_marked-requires c =
    let flagged = c.if-cut-eq0.false in record { held_in_two = c.requires.held flagged; pieces_room = (omega (arith, c.requires.whole, c.requires.few), c.requires.room); by_index = c.requires.cut-marks flagged }

pub returns : goal.returns
returns c =
    pieces-some c.requires c.if-cut-eq0.false c.refine_marked.ensures
