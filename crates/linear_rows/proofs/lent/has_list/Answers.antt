-- `linear_rows::lent::has_list` meets its contract: the laws are in proofs/Vertex.
use Rattle.linear_rows.proofs.Vertex.{list-no-vertex, list-short, list-backwards, list-end}
use Rattle.linear_rows.proofs.lent.has_list.Goals as goal

pub returns-then-v-n : goal.returns-then-v-n
returns-then-v-n c = list-no-vertex _ _ _ c.if-v-n.true

pub returns-then-lists-n : goal.returns-then-lists-n
returns-then-lists-n c = list-short _ _ _ c.if-lists-n.true

pub returns-then-end-begin : goal.returns-then-end-begin
returns-then-end-begin c = list-backwards _ _ _ c.wide-begin.ensures c.wide-end.ensures c.if-end-begin.true

pub returns : goal.returns
returns c = list-end _ _ _ c.wide-begin.ensures c.wide-end.ensures c.if-v-n.false c.if-lists-n.false c.if-end-begin.false
