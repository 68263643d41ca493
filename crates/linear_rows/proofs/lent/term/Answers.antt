-- `linear_rows::lent::term` meets its contract: the laws are in proofs/Vertex.
use Rattle.linear_rows.proofs.Vertex.{pairs-parts, term_is}
use Rattle.linear_rows.proofs.lent.term.Goals as goal

pub entry_at-z-requires : goal.entry_at-z-requires
entry_at-z-requires c = let p = pairs-parts _ _ _ _ _ _ c.requires in (p.2, p.0)

pub other_end-j-requires : goal.other_end-j-requires
other_end-j-requires c = let p = pairs-parts _ _ _ _ _ _ c.requires in (p.0, p.1)

pub pair_at-requires : goal.pair_at-requires
pair_at-requires c = rw c.other_end-j.ensures (pairs-parts _ _ _ _ _ _ c.requires).3

pub returns : goal.returns
returns c = term_is _ _ _ _ _ _ c.entry_at-z.ensures c.other_end-j.ensures c.pair_at.ensures c.mul.ensures
