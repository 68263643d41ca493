-- `linear_adjacency::count_edge` meets its contract: each return rewrites the definition by the calls on its way; the laws are in proofs/Counting.
use Rattle.linear_adjacency.proofs.Counting.{counted-fits}
use Rattle.linear_adjacency.proofs.count_edge.Goals as goal

pub count_at-requires-2 : goal.count_at-requires-2
count_at-requires-2 c = counted-fits _ _ _ c.requires c.count_at.ensures

pub returns : goal.returns
returns c = cc
