-- `linear_vectors::add_scaled` meets its contract: each return opens the definition and rewrites it by the tests and the calls on its way.
use Rattle.linear_vectors.specs.Vectors.{add_scaled}
use Rattle.linear_vectors.proofs.add_scaled.Goals as goal

pub returns : goal.returns
unfolding add_scaled
returns c = cc
