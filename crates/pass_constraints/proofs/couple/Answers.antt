-- `pass_constraints::couple` meets its contract: the loop keeps what `Inv-loop` says, and what is left to do falls at each iteration; the laws are in proofs/Loops.
use borrow.Author.Rules.{rules}
use Prim.Native.Nat.{◌-◌}
use mathlib.Core.Path.{sym, subst}
use Rattle.pass_constraints.proofs.Loops.{couple-none, couple-again, couple-done}
use Rattle.pass_constraints.specs.Work.{TangentRoom}
use Rattle.pass_constraints.proofs.couple.Goals as goal

pub loop-i-init : goal.loop-i-init
loop-i-init c = search (couple-none, rules)

pub couple_at-requires : goal.couple_at-requires
couple_at-requires c =
    (search rules, (c.requires.0, subst (λ k. TangentRoom k c.args.n c.args.l) (sym c.loop-i.invariant.1.0) c.requires.1))

pub loop-i-preserved : goal.loop-i-preserved
loop-i-preserved c =
    (search rules, (search rules, couple-again _ c.args.l _ _ c.requires.1 _ c.loop-i-test.true c.loop-i.invariant.1.1 c.couple_at.ensures))

pub returns : goal.returns
returns c = search couple-done
