-- `linear_vectors::invert` meets its contract: the loop keeps what `Inv-loop` says, and what is left to do falls at each iteration; the laws are in proofs/Inverses.
use Rattle.linear_vectors.proofs.Inverses.{invert-none, invert-again, invert-done}
use borrow.Author.Rules.{rules}
use Rattle.linear_vectors.proofs.invert.Goals as goal

pub loop-i-init : goal.loop-i-init
loop-i-init c = search (invert-none, rules)

pub loop-i-preserved : goal.loop-i-preserved
loop-i-preserved c = search (invert-again, rules)

pub returns : goal.returns
returns c = search invert-done
