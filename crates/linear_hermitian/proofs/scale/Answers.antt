-- `linear_hermitian::scale` meets its contract: the loop keeps what `Inv-loop` says, and what is left to do falls at each iteration; the laws are in proofs/Loops.
use Rattle.linear_hermitian.proofs.Loops.{scale-none, scale-again, scale-done}
use Prim.Native.Nat.{◌-◌}
use borrow.Author.Rules.{rules}
use Rattle.linear_hermitian.proofs.scale.Goals as goal

pub loop-i-init : goal.loop-i-init
loop-i-init c = search (scale-none, rules)

pub loop-i-preserved : goal.loop-i-preserved
loop-i-preserved c = search (scale-again, rules)

pub returns : goal.returns
returns c = search scale-done
