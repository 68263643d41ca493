-- `linear_vectors::residual::term_one` meets its contract: each return opens the definition and rewrites it by the tests and the calls on its way.
use Rattle.linear_vectors.specs.ResidualWork.{put_term}
use Rattle.linear_vectors.proofs.residual.term_one.Goals as goal

pub returns : goal.returns
unfolding put_term
returns c = cc
