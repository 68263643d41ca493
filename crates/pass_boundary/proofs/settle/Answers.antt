-- `pass_boundary::settle` meets its contract: the loop keeps what `Inv-loop` says, and what is left to do falls at each iteration; the laws are in proofs/Whole.
use borrow.Author.Rules.{rules}
use native.Mathlib.Omega.{arith}
use mathlib.Core.Path.{subst, sym}
use Rattle.pass_boundary.specs.Work.{PlaneRoom}
use Rattle.pass_boundary.proofs.Whole.{settle-none, settle-again, settle-done}
use Rattle.pass_boundary.proofs.settle.Goals as goal

pub loop-v-init : goal.loop-v-init
loop-v-init c = search (settle-none, rules)

pub settle_at-requires : goal.settle_at-requires
settle_at-requires c =
    (subst (PlaneRoom c.args.p) (sym c.loop-v.invariant.1.1.0) c.requires.0, (omega arith, omega (arith, c.requires.1)))

pub loop-v-preserved : goal.loop-v-preserved
loop-v-preserved c =
    (c.loop-v.invariant.0, (omega arith, (search rules, settle-again _ _ _ c.args.p c.requires.0 _ (omega arith) c.loop-v.invariant.1.1.1 c.settle_at.ensures)))

pub returns : goal.returns
returns c = search settle-done
