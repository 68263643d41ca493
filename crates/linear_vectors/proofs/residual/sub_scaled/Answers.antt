-- `linear_vectors::residual::sub_scaled` meets its contract: each return opens the definition and rewrites it by the tests and the calls on its way.
use Rattle.linear_vectors.specs.Vectors.{sub_scaled}
use Rattle.linear_vectors.proofs.residual.sub_scaled.Goals as goal

pub returns : goal.returns
unfolding sub_scaled
returns c = cc
