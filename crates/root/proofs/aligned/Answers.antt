-- `root::aligned` meets its contract: the arms of its definition. Assumes nothing.
use Rattle.std.proofs.Common.{arith, eq-eqb, ne_eqb}
use Rattle.root.proofs.aligned.Goals as goal

pub returns-then-x-eq0 : goal.returns-then-x-eq0
returns-then-x-eq0 c = (simp (eq-eqb _ _ c.if-x-eq0.true), omega arith)

pub returns : goal.returns
returns c = (simp (ne_eqb _ _ c.if-x-eq0.false), omega arith)
