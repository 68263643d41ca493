-- `linear_hermitian::shift_diagonal` meets its contract: the loop keeps what `Inv-loop` says, and what is left to do falls at each iteration; the laws are in proofs/Shift.
use Rattle.linear_hermitian.proofs.Shift.{shift-real-none, shift-real-again, shift-real-done}
use Prim.Native.Nat.{◌-◌}
use borrow.Author.Rules.{rules}
use Rattle.linear_hermitian.proofs.shift_diagonal.Goals as goal

pub loop-i-init : goal.loop-i-init
loop-i-init c = search (shift-real-none, rules)

pub loop-i-preserved : goal.loop-i-preserved
loop-i-preserved c = search (shift-real-again, rules)

pub returns : goal.returns
returns c = search shift-real-done
