-- `float::max` meets its contract: the arms of `max_of`. Assumes nothing.
use Rattle.float.proofs.max.Goals as goal

pub returns-then-a-b : goal.returns-then-a-b
returns-then-a-b c = simp c.if-a-b.true

pub returns-then-a : goal.returns-then-a
returns-then-a c = simp (c.if-a-b.false, c.if-a.true)

pub returns : goal.returns
returns c = simp (c.if-a-b.false, c.if-a.false)
