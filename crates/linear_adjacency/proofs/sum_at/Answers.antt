-- `linear_adjacency::sum_at` meets its contract: each return rewrites the definition by the calls on its way.
use Rattle.linear_adjacency.proofs.sum_at.Goals as goal

pub returns : goal.returns
returns c = (cc, cc)
