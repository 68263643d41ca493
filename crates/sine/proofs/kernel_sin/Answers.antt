-- `sine::kernel_sin` meets its contract: the arm of `kernel_sin` that the test of the upper word chooses. Assumes nothing.
use borrow.Author.Tests.{le-ltb, lt-ltb}
use Rattle.sine.specs.Kernel.{kernel_sin}
use Rattle.sine.proofs.kernel_sin.Goals as goal

pub returns-then-high_word-lt1044381696 : goal.returns-then-high_word-lt1044381696
unfolding kernel_sin
returns-then-high_word-lt1044381696 c = simp (← c.high_word.ensures, lt-ltb _ _ c.if-high_word-lt1044381696.true)

pub returns : goal.returns
unfolding kernel_sin
returns c = simp (← c.high_word.ensures, le-ltb _ _ c.if-high_word-lt1044381696.false)
