-- `linear_vectors::direct_at` meets its contract: each return opens the definition and rewrites it by the tests and the calls on its way.
use Rattle.linear_vectors.specs.Work.{direct_c}
use Rattle.linear_vectors.proofs.direct_at.Goals as goal

pub returns : goal.returns
unfolding direct_c
returns c = cc
