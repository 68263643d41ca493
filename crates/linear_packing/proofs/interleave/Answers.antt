-- `linear_packing::interleave` meets its contract: the loop keeps what `Inv-loop` says, and what is left to do falls at each iteration; the laws are in proofs/Interleaving.
use mathlib.Core.Path.{◌∙◌, ap}
use native.Mathlib.Omega.{arith}
use lib.ListN.{length}
use Rattle.linear_packing.proofs.Interleaving.{interleave-none, length-interleaved_to, interleave-still, interleave-again, interleave-done}
use Rattle.linear_packing.proofs.interleave.Goals as goal

pub overflow_add-g-end : goal.overflow_add-g-end
overflow_add-g-end c = omega (arith, c.requires.room.few)

pub loop-g-init : goal.loop-g-init
loop-g-init c = (omega arith, omega arith, omega arith, interleave-none _ _ _)

pub interleave_at-requires : goal.interleave_at-requires
interleave_at-requires c = ((interleave-still _ _ _ c.requires c.loop-g.g (omega arith) c.loop-g.invariant.3).laid, omega arith)

pub loop-g-preserved : goal.loop-g-preserved
loop-g-preserved c =
    let q = interleave-again _ _ _ c.requires c.loop-g.g (omega arith) c.loop-g.invariant.3 c.interleave_at.ensures in
    (c.loop-g.invariant.0, omega arith, ap length q ∙ length-interleaved_to _ _ _ _, q)

pub returns : goal.returns
returns c = interleave-done _ _ _ c.requires c.loop-g.invariant.0 (omega arith) (omega arith) c.loop-g.invariant.3
