-- `linear_packing::interleave_pair` meets its contract: the loop keeps what `Inv-loop` says, and what is left to do falls at each iteration; the laws are in proofs/Interleaving.
use mathlib.Core.Path.{◌∙◌, ap}
use native.Mathlib.Omega.{arith}
use lib.ListN.{length}
use Rattle.linear_packing.proofs.Interleaving.{pair-none, length-pair_to, pair-still, slot-now, pair-again, pair-done}
use Rattle.linear_packing.proofs.interleave_pair.Goals as goal

pub overflow_add-j-end : goal.overflow_add-j-end
overflow_add-j-end c = omega (arith, c.requires.rows_in.most, c.requires.laid.room.narrow)

pub loop-j-init : goal.loop-j-init
loop-j-init c = (omega arith, omega arith, omega arith, pair-none _ _ _ _ _ _ _)

pub slot_at-requires : goal.slot_at-requires
slot_at-requires c = record { laid = (pair-still _ _ _ _ _ _ _ c.requires.laid c.requires.rows_in c.loop-j.j c.loop-j.invariant.3).laid; slot_in = (slot-now _ _ _ _ _ _ _ c.requires.laid c.requires.rows_in c.loop-j.j (omega arith) c.loop-j.invariant.3, omega (arith, c.requires.rows_in.most)) }

pub loop-j-preserved : goal.loop-j-preserved
loop-j-preserved c =
    let q = pair-again _ _ _ _ _ _ _ c.requires.laid c.requires.rows_in c.loop-j.j (omega arith) c.loop-j.invariant.3 c.slot_at.ensures in
    (c.loop-j.invariant.0, omega arith, ap length q ∙ length-pair_to _ _ _ _ _ _ _ _, q)

pub returns : goal.returns
returns c = pair-done _ _ _ _ _ _ _ c.requires.laid c.requires.rows_in c.loop-j.invariant.0 (omega arith) (omega arith) c.loop-j.invariant.3
