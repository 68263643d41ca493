-- `linear_vectors::residual::add_cells` meets its contract: the loop keeps what `Inv-loop` says, and what is left to do falls at each iteration; the laws are in proofs/Sweeps.
use Rattle.linear_vectors.proofs.Sweeps.{add_none, add-again, add_done}
use borrow.Author.Rules.{rules}
use Rattle.linear_vectors.proofs.residual.add_cells.Goals as goal

pub loop-k-init : goal.loop-k-init
loop-k-init c = search (add_none, rules)

pub loop-k-preserved : goal.loop-k-preserved
loop-k-preserved c = search (add-again, rules)

pub returns : goal.returns
returns c = search add_done
