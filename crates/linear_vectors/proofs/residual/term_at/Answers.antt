-- `linear_vectors::residual::term_at` meets its contract: each return opens the definition and rewrites it by the tests and the calls on its way.
use Rattle.linear_vectors.specs.ResidualWork.{term_at}
use Rattle.linear_vectors.proofs.residual.term_at.Goals as goal

pub returns : goal.returns
unfolding term_at
returns c = cc
