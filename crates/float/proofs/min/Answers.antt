-- `float::min` meets its contract: the arms of `min_of`. Assumes nothing.
use Rattle.float.proofs.min.Goals as goal

pub returns-then-b-a : goal.returns-then-b-a
returns-then-b-a c = simp c.if-b-a.true

pub returns-then-a : goal.returns-then-a
returns-then-a c = simp (c.if-b-a.false, c.if-a.true)

pub returns : goal.returns
returns c = simp (c.if-b-a.false, c.if-a.false)
