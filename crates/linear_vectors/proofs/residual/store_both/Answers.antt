-- `linear_vectors::residual::store_both` meets its contract: each return opens the definition and rewrites it by the tests and the calls on its way; the law is in proofs/Residuals.
use Rattle.linear_vectors.proofs.Residuals.{both-all}
use borrow.Author.Rules.{rules}
use Rattle.linear_vectors.proofs.residual.store_both.Goals as goal

pub returns : goal.returns
returns c = search (both-all, rules)
