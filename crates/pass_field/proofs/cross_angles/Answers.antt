-- `pass_field::cross_angles` meets its contract: the loop keeps what `Inv-loop` says, and what is left to do falls at each iteration; the laws are in proofs/Angles.
use Rattle.pass_field.proofs.Angles.{angles-none, angles-again, angles-done}
use borrow.Author.Rules.{rules}
use Rattle.pass_field.proofs.cross_angles.Goals as goal

pub loop-i-init : goal.loop-i-init
loop-i-init c = search (angles-none, rules)

pub loop-i-preserved : goal.loop-i-preserved
loop-i-preserved c = search (angles-again, rules)

pub returns : goal.returns
returns c = search angles-done
