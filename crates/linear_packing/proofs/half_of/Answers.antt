-- `linear_packing::half_of` meets its contract: each return rewrites the definition by the calls on its way.
use borrow.Author.Tests.{eq-eqb, ne_eqb}
use Rattle.linear_packing.proofs.half_of.Goals as goal

pub returns-then-a-v : goal.returns-then-a-v
returns-then-a-v c = rw (eq-eqb _ _ c.if-a-v.true)

pub returns : goal.returns
returns c = rw (ne_eqb _ _ c.if-a-v.false)
