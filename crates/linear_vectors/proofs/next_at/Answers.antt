-- `linear_vectors::next_at` meets its contract: each return opens the definition and rewrites it by the tests and the calls on its way.
use Rattle.linear_vectors.specs.Work.{next_c}
use Rattle.linear_vectors.proofs.next_at.Goals as goal

pub returns : goal.returns
unfolding next_c
returns c = cc
