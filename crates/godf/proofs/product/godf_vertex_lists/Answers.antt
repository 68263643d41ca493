-- `godf::product::godf_vertex_lists` meets its contract: the laws are in proofs/Lists.
use Rattle.godf.proofs.Lists.{lists-made, lists-refused}
use Rattle.godf.proofs.product.godf_vertex_lists.Goals as goal

pub returns-then-vertex_lists : goal.returns-then-vertex_lists
returns-then-vertex_lists c = lists-made _ _ _ _ _ c.vertex_lists.ensures c.if-vertex_lists.true

pub returns : goal.returns
returns c = lists-refused _ _ _ _ _ c.vertex_lists.ensures c.if-vertex_lists.false
