-- `linear_rows::lent::entry_at` meets its contract: the laws are in proofs/Vertex.
use Rattle.linear_rows.proofs.Vertex.{entry-same, entry_other}
use Rattle.linear_rows.proofs.lent.entry_at.Goals as goal

pub returns-then-wide-v : goal.returns-then-wide-v
returns-then-wide-v c = entry-same _ c.args.from.now _ _ c.wide.ensures _ c.pair_at-z.ensures c.if-wide-v.true

pub returns : goal.returns
returns c =
    entry_other _ c.args.from.now _ _ c.wide.ensures _ c.pair_at-z.ensures c.if-wide-v.false c.conj.ensures
