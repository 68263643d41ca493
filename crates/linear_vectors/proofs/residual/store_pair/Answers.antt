-- `linear_vectors::residual::store_pair` meets its contract: each return opens the definition and rewrites it by the tests and the calls on its way.
use Rattle.linear_vectors.proofs.residual.store_pair.Goals as goal

pub returns : goal.returns
returns c = cc
