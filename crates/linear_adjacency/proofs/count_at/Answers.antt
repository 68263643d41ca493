-- `linear_adjacency::count_at` meets its contract: each return rewrites the definition by the calls on its way.
use Rattle.linear_adjacency.specs.Build.{counted}
use Rattle.linear_adjacency.proofs.count_at.Goals as goal

pub returns : goal.returns
unfolding counted
returns c = cc
