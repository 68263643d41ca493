-- `linear_vectors::scale_by` meets its contract: the loop keeps what `Inv-loop` says, and what is left to do falls at each iteration; the laws are in proofs/Scale.
use Rattle.linear_vectors.proofs.Scale.{scale-none, scale-again, scale-done}
use borrow.Author.Rules.{rules}
use Rattle.linear_vectors.proofs.scale_by.Goals as goal

pub loop-i-init : goal.loop-i-init
loop-i-init c = search (scale-none, rules)

pub loop-i-preserved : goal.loop-i-preserved
loop-i-preserved c = search (scale-again, rules)

pub returns : goal.returns
returns c = search scale-done
