-- `pass_soft::repeat` meets its contract: the loop keeps what `Inv-loop` says, and what is left to do falls at each iteration; the laws are in proofs/Targets.
use Prim.Native.Nat.{◌-◌}
use Rattle.pass_soft.proofs.Targets.{repeat-none, repeat-again, repeat-done}
use borrow.Author.Rules.{rules}
use Rattle.pass_soft.proofs.repeat.Goals as goal

pub loop-i-init : goal.loop-i-init
loop-i-init c = search (repeat-none, rules)

pub loop-i-preserved : goal.loop-i-preserved
loop-i-preserved c = search (repeat-again, rules)

pub returns : goal.returns
returns c = search repeat-done
