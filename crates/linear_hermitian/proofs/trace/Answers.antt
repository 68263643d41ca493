-- `linear_hermitian::trace` meets its contract: the loop keeps what `Inv-loop` says, and what is left to do falls at each iteration; the laws are in proofs/Shift.
use Rattle.linear_hermitian.proofs.Shift.{trace-none, trace-again, trace-done}
use Prim.Native.Nat.{◌-◌}
use borrow.Author.Rules.{rules}
use Rattle.linear_hermitian.proofs.trace.Goals as goal

pub loop-i-init : goal.loop-i-init
loop-i-init c = search (trace-none, rules)

pub loop-i-preserved : goal.loop-i-preserved
loop-i-preserved c = search (trace-again, rules)

pub returns : goal.returns
returns c = search trace-done
