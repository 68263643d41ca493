-- `linear_rows::lent::pair_at` meets its contract: the law is in proofs/Vertex.
use Rattle.linear_rows.proofs.Vertex.{pair_is}
use Rattle.linear_rows.proofs.lent.pair_at.Goals as goal

pub returns : goal.returns
returns c = pair_is _ _ c.requires
