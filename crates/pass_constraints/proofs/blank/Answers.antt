-- `pass_constraints::blank` meets its contract: the loop keeps what `Inv-loop` says, and what is left to do falls at each iteration; the laws are in proofs/Loops.
use borrow.Author.Rules.{rules}
use Prim.Native.Nat.{◌-◌}
use Rattle.pass_constraints.proofs.Loops.{blank_none, blank-again, blank-done}
use Rattle.pass_constraints.proofs.blank.Goals as goal

pub loop-i-init : goal.loop-i-init
loop-i-init c = search (blank_none, rules)

pub loop-i-preserved : goal.loop-i-preserved
loop-i-preserved c =
    (search rules, (search rules, blank-again _ _ _ _ c.requires.1 _ c.loop-i-test.true c.loop-i.invariant.1.1 c.blank_at.ensures))

pub returns : goal.returns
returns c = search blank-done
