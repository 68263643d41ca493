-- `linear_pairs::firsts` meets its contract: each return rewrites the definition by the calls on its way.
use Rattle.linear_pairs.specs.Sums.{first_terms}
use Rattle.linear_pairs.proofs.firsts.Goals as goal

pub returns : goal.returns
unfolding first_terms
returns c = cc
