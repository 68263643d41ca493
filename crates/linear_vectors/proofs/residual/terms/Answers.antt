-- `linear_vectors::residual::terms` meets its contract: the loop keeps what `Inv-loop` says, and what is left to do falls at each iteration; the laws are in proofs/Sweeps.
use Rattle.linear_vectors.proofs.Sweeps.{terms-none, terms-again, terms-done}
use native.Mathlib.Omega.{arith}
use borrow.Author.Rules.{rules}
use Rattle.linear_vectors.proofs.residual.terms.Goals as goal

pub loop-k-init : goal.loop-k-init
loop-k-init c = search (terms-none, rules)

pub term_one-requires : goal.term_one-requires
term_one-requires c = omega arith

pub loop-k-preserved : goal.loop-k-preserved
loop-k-preserved c = search (terms-again, rules)

pub returns : goal.returns
returns c = search terms-done
