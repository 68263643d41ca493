-- `linear_hermitian::shift_off` meets its contract: the loop keeps what `Inv-loop` says, and what is left to do falls at each iteration; the laws are in proofs/Shift.
use Rattle.linear_hermitian.proofs.Shift.{shift_none, shift-again, shift-done}
use Prim.Native.Nat.{◌-◌}
use borrow.Author.Rules.{rules}
use Rattle.linear_hermitian.proofs.shift_off.Goals as goal

pub loop-i-init : goal.loop-i-init
loop-i-init c = search (shift_none, rules)

pub loop-i-preserved : goal.loop-i-preserved
loop-i-preserved c = search (shift-again, rules)

pub returns : goal.returns
returns c = search shift-done
