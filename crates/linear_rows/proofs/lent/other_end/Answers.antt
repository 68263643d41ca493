-- `linear_rows::lent::other_end` meets its contract: the laws are in proofs/Vertex.
use Rattle.linear_rows.proofs.Vertex.{end_same, end-other}
use Rattle.linear_rows.proofs.lent.other_end.Goals as goal

pub returns-then-a-v : goal.returns-then-a-v
returns-then-a-v c = end_same _ _ _ _ c.wide-a.ensures c.wide.ensures c.if-a-v.true

pub returns : goal.returns
returns c = end-other _ _ _ _ c.wide-a.ensures c.if-a-v.false
