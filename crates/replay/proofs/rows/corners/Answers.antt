-- `replay::rows::corners` meets its contract: after i iterations the first i are stored; the laws are in proofs/Fill.
use Rattle.std.proofs.Common.{◌≡◌, ◌+◌, length, refl, arith}
use Rattle.replay.proofs.Fill.{fill_none, fill_more}
use Rattle.replay.specs.Rows.{corner_at, at_most}
use Rattle.replay.proofs.rows.corners.Goals as goal

pub loop-i-init : goal.loop-i-init
loop-i-init c = fill_none _ _

pub overflow_add-k : goal.overflow_add-k
overflow_add-k c = omega (arith, c.at_most-m.ensures.1)

pub bounds-out-i : goal.bounds-out-i
bounds-out-i c = omega (arith, c.loop-i-test.true, c.at_most-m.ensures.1)

pub loop-i-preserved : goal.loop-i-preserved
loop-i-preserved c = fill_more (λ j. corner_at c.args.row.now (c.args.k + j)) c.args.out.now c.loop-i.i c.loop-i.invariant c.corner.ensures refl

pub returns : goal.returns
returns c =
    let e : c.loop-i.i ≡ at_most (length c.args.out.now) c.args.n = omega (arith, c.loop-i-test.false, c.at_most-m.ensures.0) in rw e at c.loop-i.invariant
