-- `linear_adjacency::lent::is_edge` meets its contract: the laws are in proofs/Tests.
use Rattle.linear_adjacency.proofs.Tests.{edge-high-a, edge-high-b, edge-good}
use Rattle.linear_adjacency.proofs.lent.is_edge.Goals as goal

pub returns-then-a-n : goal.returns-then-a-n
returns-then-a-n c = edge-high-a _ _ _ c.if-a-n.true

pub returns-then-b-n : goal.returns-then-b-n
returns-then-b-n c = edge-high-b _ _ _ c.if-b-n.true

pub returns : goal.returns
returns c = edge-good _ _ _ c.if-a-n.false c.if-b-n.false
