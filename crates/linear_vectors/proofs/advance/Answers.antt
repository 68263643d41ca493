-- `linear_vectors::advance` meets its contract: the loop keeps what `Inv-loop` says, and what is left to do falls at each iteration; the laws are in proofs/Directions.
use Rattle.linear_vectors.proofs.Directions.{advance-none, advance-again, advance-done}
use borrow.Author.Rules.{rules}
use Rattle.linear_vectors.proofs.advance.Goals as goal

pub loop-i-init : goal.loop-i-init
loop-i-init c = search (advance-none, rules)

pub loop-i-preserved : goal.loop-i-preserved
loop-i-preserved c = search (advance-again, rules)

pub returns : goal.returns
returns c = search advance-done
