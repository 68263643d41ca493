-- `sine::sin` meets its contract: the arms of `sin_of`. Assumes nothing.
use borrow.Author.Tests.{le-leb, lt-leb}
use Rattle.float.proofs.Facts.{zero_by_zero}
use Rattle.sine.specs.Sine.{sin_of}
use Rattle.sine.proofs.sin.Goals as goal

pub returns-then-b-le1072243195 : goal.returns-then-b-le1072243195
unfolding sin_of
returns-then-b-le1072243195 c = simp (← c.bits-b.ensures, le-leb _ _ c.if-b-le1072243195.true, c.kernel_sin_alone.ensures)

pub returns-then-t : goal.returns-then-t
unfolding sin_of
returns-then-t c = simp (← c.bits-b.ensures, lt-leb _ _ c.if-b-le1072243195.false, ← c.abs-t.ensures, c.if-t.true, c.switched.ensures)

pub returns : goal.returns
unfolding sin_of
returns c = simp (← c.bits-b.ensures, lt-leb _ _ c.if-b-le1072243195.false, ← c.abs-t.ensures, c.if-t.false, zero_by_zero)
