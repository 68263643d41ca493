-- `linear_rows::plus_ends` meets its contract: each return rewrites the definition by the calls on its way.
use borrow.Author.Tests.{eq-eqb, ne_eqb}
use Rattle.linear_rows.specs.Work.{plus_c}
use Rattle.linear_rows.proofs.plus_ends.Goals as goal

pub returns-then-a-v : goal.returns-then-a-v
unfolding plus_c
returns-then-a-v c = rw (eq-eqb _ _ c.if-a-v.true) (cc)

pub returns : goal.returns
unfolding plus_c
returns c = rw (ne_eqb _ _ c.if-a-v.false) (cc)
