-- `linear_packing::marks` meets its contract: the loop keeps what `Inv-loop` says, and what is left to do falls at each iteration; the laws are in proofs/Making.
use mathlib.Core.Path.{◌∙◌, ap}
use native.Mathlib.Omega.{arith}
use lib.ListN.{length}
use Rattle.linear_packing.proofs.Making.{marks-none, length-marks_to, marks-copied, marks-again, marks-done}
use Rattle.linear_packing.proofs.marks.Goals as goal

pub overflow_mul-v-end : goal.overflow_mul-v-end
overflow_mul-v-end c = omega (arith, c.requires.started.room.few)

pub loop-v-init : goal.loop-v-init
loop-v-init c = (omega arith, omega arith, omega arith, marks-none _ _ _)

pub mark_at-requires : goal.mark_at-requires
mark_at-requires c = (marks-copied _ _ _ c.requires c.loop-v.v c.loop-v.invariant.3, omega arith)

pub loop-v-preserved : goal.loop-v-preserved
loop-v-preserved c =
    let q = marks-again _ _ _ c.requires c.loop-v.v (omega arith) c.loop-v.invariant.3 c.mark_at.ensures in
    (c.loop-v.invariant.0, omega arith, ap length q ∙ length-marks_to _ _ _ _, q)

pub returns : goal.returns
returns c = marks-done _ _ _ c.requires c.loop-v.invariant.0 (omega arith) (omega arith) c.loop-v.invariant.3
