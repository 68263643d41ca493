-- `linear_packing::neighbours` meets its contract: the loop keeps what `Inv-loop` says, and what is left to do falls at each iteration; the laws are in proofs/Making.
use mathlib.Core.Path.{◌∙◌, ap}
use native.Mathlib.Omega.{arith}
use lib.ListN.{length}
use Rattle.linear_packing.proofs.Making.{neighbours-none, length-neighbours_to, neighbours-interleaved, neighbours-again, neighbours-done}
use Rattle.linear_packing.proofs.neighbours.Goals as goal

pub loop-k-init : goal.loop-k-init
loop-k-init c = (omega arith, omega arith, omega arith, neighbours-none _ _ _)

pub neighbour_at-requires : goal.neighbour_at-requires
neighbour_at-requires c = (neighbours-interleaved _ _ _ c.requires c.loop-k.k c.loop-k.invariant.3, omega arith)

pub loop-k-preserved : goal.loop-k-preserved
loop-k-preserved c =
    let q = neighbours-again _ _ _ c.requires c.loop-k.k (omega arith) c.loop-k.invariant.3 c.neighbour_at.ensures in
    (c.loop-k.invariant.0, omega arith, ap length q ∙ length-neighbours_to _ _ _ _, q)

pub returns : goal.returns
returns c = neighbours-done _ _ _ c.requires c.loop-k.invariant.0 (omega arith) (omega arith) c.loop-k.invariant.3
