-- `replay::rows::same_doubles` meets its contract: what is left to compare says the same as the whole; the laws are in proofs/Same.
use Rattle.std.proofs.Common.{sym, ◌∙◌, arith}
use lib.Ieee.{nan}
use Rattle.replay.specs.Rows.{same_as}
use Rattle.replay.proofs.Same.{same-unlike, same_none, same_more, same_differs, same-done}
use Rattle.replay.proofs.rows.same_doubles.Goals as goal

pub returns-then-a-b : goal.returns-then-a-b
returns-then-a-b c = same-unlike same_as _ _ c.if-a-b.true

pub loop-i-init : goal.loop-i-init
loop-i-init c = same_none same_as _ _

pub returns-then-not-same : goal.returns-then-not-same
returns-then-not-same c =
    same_differs same_as c.args.a.now c.args.b.now nan c.loop-i.i (omega arith) (omega (arith, c.if-a-b.false)) c.loop-i.invariant (sym c.same.ensures ∙ c.if-not-same.true)

pub loop-i-preserved : goal.loop-i-preserved
loop-i-preserved c =
    same_more same_as c.args.a.now c.args.b.now nan c.loop-i.i (omega arith) (omega (arith, c.if-a-b.false)) c.loop-i.invariant (sym c.same.ensures ∙ c.if-not-same.false)

pub returns : goal.returns
returns c = same-done same_as _ _ c.loop-i.i (omega arith) (omega (arith, c.if-a-b.false)) c.loop-i.invariant
