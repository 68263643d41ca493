-- `sine::kernel_cos` meets its contract: the arm of `kernel_cos` that the tests of the upper word choose. Assumes nothing.
use borrow.Author.Tests.{le-ltb, lt-ltb}
use Rattle.sine.specs.Kernel.{kernel_cos}
use Rattle.sine.proofs.kernel_cos.Goals as goal

pub returns-then-ix-lt1044381696 : goal.returns-then-ix-lt1044381696
unfolding kernel_cos
returns-then-ix-lt1044381696 c = simp (← c.high_word-ix.ensures, lt-ltb _ _ c.if-ix-lt1044381696.true)

pub returns-then-ix-lt1070805811 : goal.returns-then-ix-lt1070805811
unfolding kernel_cos
returns-then-ix-lt1070805811 c = simp (← c.high_word-ix.ensures, le-ltb _ _ c.if-ix-lt1044381696.false, lt-ltb _ _ c.if-ix-lt1070805811.true)

pub returns : goal.returns
unfolding kernel_cos
returns c = simp (← c.high_word-ix.ensures, le-ltb _ _ c.if-ix-lt1044381696.false, le-ltb _ _ c.if-ix-lt1070805811.false, c.quarter_of-qx.ensures)
