-- `linear_pairs::multiply` meets its contract: the loop keeps what `Inv-loop` says, and what is left to do falls at each iteration; the laws are in proofs/Product.
use native.Mathlib.Omega.{arith}
use Rattle.linear_pairs.proofs.Product.{product-none, dot-none, slot-none, stream-in, rows_in, rows-again, single-in, product-odd, product-even}
use Rattle.linear_pairs.proofs.multiply.Goals as goal

pub overflow_mul-end : goal.overflow_mul-end
overflow_mul-end c =
    omega (arith, c.requires.product_room.packing.starts-in, c.ranges)

pub loop-v-init : goal.loop-v-init
loop-v-init c =
    (omega arith, omega arith, omega arith, omega arith, product-none _ _ _ _ _ _ _ _, dot-none _ _ _ _ _ _ _ _, slot-none _ _ _ _ _ _ _ _ c.requires.product_room c.requires.graph c.requires.packed)

pub pair_at-reached-requires : goal.pair_at-reached-requires
pair_at-reached-requires c =
    let loop = c.loop-v in
    record {
      stream_in = stream-in _ _ _ _ _ _ _ _ c.requires.product_room c.requires.graph c.requires.packed loop.v loop.invariant.4;
      pair_in = rows_in _ _ _ _ _ _ _ _ c.requires.product_room c.requires.graph c.requires.packed loop.invariant.2 (omega arith) loop.invariant.4 loop.invariant.6;
    }

pub loop-v-preserved : goal.loop-v-preserved
loop-v-preserved c =
    let loop = c.loop-v in
    let made = rows-again _ _ _ _ _ _ _ _ c.requires.product_room c.requires.graph c.requires.packed loop.invariant.2 (omega arith) loop.invariant.4 loop.invariant.5 c.pair_at-reached.ensures in
    (loop.invariant.0, omega arith, omega arith, omega arith, made.0, made.1, made.2)

pub single_at-requires : goal.single_at-requires
single_at-requires c =
    let loop = c.loop-v in
    record {
      stream_in = stream-in _ _ _ _ _ _ _ _ c.requires.product_room c.requires.graph c.requires.packed loop.v loop.invariant.4;
      single_in = single-in _ _ _ _ _ _ _ _ c.requires.product_room c.requires.graph c.requires.packed (omega (arith, c.if-copy-eq1.true)) loop.v loop.invariant.4;
    }

pub returns-then-copy-eq1 : goal.returns-then-copy-eq1
returns-then-copy-eq1 c =
    let loop = c.loop-v in
    product-odd _ _ _ _ _ _ _ _ c.requires.product_room c.requires.graph c.requires.packed c.if-copy-eq1.true loop.invariant.0 (omega arith) loop.invariant.4 loop.invariant.5 c.single_at.ensures

pub returns : goal.returns
returns c =
    let loop = c.loop-v in
    product-even _ _ _ _ _ _ _ _ c.requires.product_room c.requires.graph c.requires.packed c.if-copy-eq1.false (omega arith) loop.invariant.4 loop.invariant.5
