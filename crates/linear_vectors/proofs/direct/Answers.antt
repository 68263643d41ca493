-- `linear_vectors::direct` meets its contract: the loop keeps what `Inv-loop` says, and what is left to do falls at each iteration; the laws are in proofs/Directions.
use Rattle.linear_vectors.proofs.Directions.{direct-none, direct-again, direct-done}
use borrow.Author.Rules.{rules}
use Rattle.linear_vectors.proofs.direct.Goals as goal

pub loop-i-init : goal.loop-i-init
loop-i-init c = search (direct-none, rules)

pub loop-i-preserved : goal.loop-i-preserved
loop-i-preserved c = search (direct-again, rules)

pub returns : goal.returns
returns c = search direct-done
