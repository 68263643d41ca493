-- `linear_rows::lent::product_over` meets its contract: the loop keeps what `Inv-loop` says, and what is left to do falls at each iteration; the laws are in proofs/Vertex.
use mathlib.Core.Path.{sym, ◌∙◌}
use native.Mathlib.Omega.{arith}
use Rattle.linear_rows.proofs.Vertex.{over-inside, over_first, over-still, over-outside, over-again, over_done, lent-diagonal}
use Rattle.linear_rows.proofs.lent.product_over.Goals as goal

pub loop-k-init : goal.loop-k-init
loop-k-init c = (omega arith, over-inside _ _ _ _ _, over_first _ _ _ _ _ (lent-diagonal _ _ _ _ _ _ c.pair_at.ensures c.scale-sum.ensures))

pub returns-then-not-is_inside : goal.returns-then-not-is_inside
returns-then-not-is_inside c =
    over-outside _ _ _ _ _ c.loop-k.k c.wide-e.ensures c.is_inside.ensures c.loop-k.invariant.1 c.if-not-is_inside.true _ (omega arith)

pub term-requires : goal.term-requires
term-requires c = sym c.is_inside.ensures ∙ c.if-not-is_inside.false

pub overflow_step-k : goal.overflow_step-k
overflow_step-k c =
    omega (arith, c.loop-k-test.true, c.ranges.count)

pub loop-k-preserved : goal.loop-k-preserved
loop-k-preserved c =
    let i = c.is_inside.ensures in (
      omega arith,
      over-still _ _ _ _ _ c.loop-k.k c.wide-e.ensures i c.loop-k.invariant.1 c.if-not-is_inside.false,
      over-again _ _ _ _ _ c.loop-k.k
          c.wide-e.ensures i c.loop-k.invariant.1 c.loop-k.invariant.2 c.term.ensures c.add-sum.ensures,
    )

pub returns : goal.returns
returns c = over_done _ _ _ _ _ (omega arith) (omega arith) c.loop-k.invariant.1 c.loop-k.invariant.2
