-- `refine_call::marks::mark_all` meets its contract: after i turns the first i are done; the laws are in proofs/Marking.
use native.Mathlib.Omega.{arith}
use Rattle.refine_call.proofs.Marking.{marks-none, marks-again, marks-held, marks-cut}
use Rattle.refine_call.proofs.marks.mark_all.Goals as goal

pub loop-i-init : goal.loop-i-init
loop-i-init c = marks-none _ _ _ _

pub mark_triangle-pieces-requires : goal.mark_triangle-pieces-requires
mark_triangle-pieces-requires c = record { held_in_two = marks-held (omega arith) c.loop-i.invariant c.requires.held_in_two; pieces_room = omega arith; cuts_at = marks-cut c.loop-i.invariant (c.requires.by_index _ (omega arith)) }

pub overflow_add-pieces : goal.overflow_add-pieces
overflow_add-pieces c = omega (arith, c.loop-i.invariant.most, c.mark_triangle-pieces.ensures.most)

pub loop-i-preserved : goal.loop-i-preserved
loop-i-preserved c = marks-again c.loop-i.invariant c.mark_triangle-pieces.ensures
