-- `linear_rows::lent::is_inside` meets its contract: the laws are in proofs/Vertex.
use Rattle.linear_rows.proofs.Vertex.{outside-from, outside-to, pairs-off, pairs_end}
use Rattle.linear_rows.proofs.lent.is_inside.Goals as goal

pub returns-then-e-from : goal.returns-then-e-from
returns-then-e-from c = outside-from _ _ _ _ _ _ c.if-e-from.true

pub returns-then-e-to : goal.returns-then-e-to
returns-then-e-to c = outside-to _ _ _ _ _ _ c.if-e-to.true

pub returns-then-e-off : goal.returns-then-e-off
returns-then-e-off c = pairs-off _ _ _ _ _ _ c.if-e-off.true

pub returns : goal.returns
returns c = pairs_end _ _ _ _ _ _ c.if-e-from.false c.if-e-to.false c.if-e-off.false c.other_end.ensures
