-- `refine_call::marks::cut_all` meets its contract: after i turns the first i are done; the laws are in proofs/Marking.
use native.Mathlib.Omega.{arith}
use Rattle.refine_call.proofs.Marking.{cuts-none, cuts-again}
use Rattle.refine_call.proofs.marks.cut_all.Goals as goal

pub loop-i-init : goal.loop-i-init
loop-i-init c = cuts-none c.requires.held_in_two

pub cut_marked-sides-requires : goal.cut_marked-sides-requires
cut_marked-sides-requires c =
    let inv = c.loop-i.invariant in
    let room = c.requires.marks_room in record { held_in_two = inv.held; marks_room = (omega (arith, room.corners-in, room.ends-in, room.marks-in, room.few, inv.same_ends, inv.same), omega (arith, inv.few, inv.seldom)) }

pub loop-i-preserved : goal.loop-i-preserved
loop-i-preserved c = cuts-again (omega arith) c.loop-i.invariant c.cut_marked-sides.ensures
