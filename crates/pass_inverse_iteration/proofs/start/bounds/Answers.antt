-- `pass_inverse_iteration::start::bounds` meets its contract: the loop keeps what `Inv-loop` says, and what is left to do falls at each iteration; the laws are in proofs/Ramps.
use lib.Ieee.{div, neg, of_bits}
use Rattle.pass_inverse_iteration.proofs.Ramps.{bounds-none, bounds-again, bounds-done}
use borrow.Author.Rules.{rules}
use Rattle.pass_inverse_iteration.proofs.start.bounds.Goals as goal

pub loop-i-init : goal.loop-i-init
unfolding div neg of_bits
loop-i-init c = (search rules, bounds-none _ _ _)

pub loop-i-preserved : goal.loop-i-preserved
loop-i-preserved c = search (bounds-again, rules)

pub returns : goal.returns
returns c = search bounds-done
