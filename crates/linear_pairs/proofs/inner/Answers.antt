-- `linear_pairs::inner` meets its contract: each return rewrites the definition by the calls on its way.
use Rattle.linear_hermitian.specs.Work.{re_term}
use Rattle.linear_pairs.specs.Sums.{inner_sum}
use Rattle.linear_pairs.proofs.inner.Goals as goal

pub returns : goal.returns
unfolding inner_sum re_term
returns c = cc
