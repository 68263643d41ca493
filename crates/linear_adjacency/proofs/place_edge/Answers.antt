-- `linear_adjacency::place_edge` meets its contract: each return rewrites the definition by the calls on its way; the laws are in proofs/Placing.
use Rattle.linear_adjacency.proofs.Placing.{placed-in}
use Rattle.linear_adjacency.proofs.place_edge.Goals as goal

pub place-requires-2 : goal.place-requires-2
place-requires-2 c =
    placed-in _ _ _ _ _ _ c.requires.1 c.requires.2 c.place.ensures

pub returns : goal.returns
returns c = cc
