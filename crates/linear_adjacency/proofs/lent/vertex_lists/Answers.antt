-- `linear_adjacency::lent::vertex_lists` meets its contract: the laws are in proofs/Tests.
use Rattle.linear_adjacency.proofs.Tests.{lists-no-edges, lists-no-room, lists-needs, lists-made}
use Rattle.linear_adjacency.proofs.lent.vertex_lists.Goals as goal

pub returns-then-not-are_edges : goal.returns-then-not-are_edges
returns-then-not-are_edges c = lists-no-edges _ _ _ _ c.are_edges.ensures c.if-not-are_edges.true

pub returns-then-not-has_room : goal.returns-then-not-has_room
returns-then-not-has_room c = lists-no-room _ _ _ _ c.are_edges.ensures c.if-not-are_edges.false c.has_room.ensures c.if-not-has_room.true

pub build-requires : goal.build-requires
build-requires c = let all = lists-needs _ _ _ c.args.lists.now c.are_edges.ensures c.if-not-are_edges.false c.has_room.ensures c.if-not-has_room.false in record { list_room = all.0; ends = all.1 }

pub returns : goal.returns
returns c =
    lists-made _ _ _ _ c.are_edges.ensures c.if-not-are_edges.false c.has_room.ensures c.if-not-has_room.false c.build.ensures
