-- `linear_vectors::residual::pair_at` meets its contract: each return opens the definition and rewrites it by the tests and the calls on its way; the law is in proofs/Sweeps.
use Rattle.linear_vectors.proofs.Sweeps.{pair-at-all}
use borrow.Author.Rules.{rules}
use Rattle.linear_vectors.proofs.residual.pair_at.Goals as goal

pub returns : goal.returns
returns c = search (pair-at-all, rules)
