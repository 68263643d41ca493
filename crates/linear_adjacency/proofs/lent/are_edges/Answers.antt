-- `linear_adjacency::lent::are_edges` meets its contract: the loop keeps what `Inv-loop` says, and what is left to do falls at each iteration; the laws are in proofs/Tests.
use Rattle.linear_adjacency.proofs.Tests.{edges_none, edges-again, edges-unpaired, edges-not, edges-done}
use borrow.Author.Rules.{rules}
use Rattle.linear_adjacency.proofs.lent.are_edges.Goals as goal

pub returns-then-to-from : goal.returns-then-to-from
returns-then-to-from c = edges-unpaired _ _ _ c.if-to-from.true

pub loop-e-init : goal.loop-e-init
loop-e-init c = (search rules, search rules, edges_none _ _ _)

pub returns-then-not-is_edge : goal.returns-then-not-is_edge
returns-then-not-is_edge c =
    edges-not _ _ _ c.if-to-from.false _ c.loop-e-test.true c.wide.ensures c.wide-in-loop-e.ensures c.is_edge.ensures c.if-not-is_edge.true

pub loop-e-preserved : goal.loop-e-preserved
loop-e-preserved c =
    (search rules, search rules, edges-again _ _ _ _ c.loop-e.invariant.2 c.wide.ensures c.wide-in-loop-e.ensures c.is_edge.ensures c.if-not-is_edge.false)

pub returns : goal.returns
returns c = edges-done _ _ _ c.if-to-from.false c.loop-e.invariant.0 c.loop-e.invariant.1 c.loop-e-test.false c.loop-e.invariant.2
