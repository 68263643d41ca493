-- `linear_vectors::residual::products_at` meets its contract: each return opens the definition and rewrites it by the tests and the calls on its way.
use Rattle.linear_hermitian.specs.Work.{re_term}
use Rattle.linear_vectors.specs.Residual.{products_at}
use Rattle.linear_vectors.proofs.residual.products_at.Goals as goal

pub returns : goal.returns
unfolding products_at re_term
returns c = cc
