-- `pass_inverse_iteration::start::ramped` meets its contract: the loop keeps what `Inv-loop` says, and what is left to do falls at each iteration; the laws are in proofs/Ramps.
use Rattle.pass_inverse_iteration.proofs.Ramps.{ramp-none, ramp-again, ramp-done}
use borrow.Author.Rules.{rules}
use Rattle.pass_inverse_iteration.proofs.start.ramped.Goals as goal

pub loop-i-init : goal.loop-i-init
loop-i-init c = search (ramp-none, rules)

pub loop-i-preserved : goal.loop-i-preserved
loop-i-preserved c = search (ramp-again, rules)

pub returns : goal.returns
returns c = search ramp-done
