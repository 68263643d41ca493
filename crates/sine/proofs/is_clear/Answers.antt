-- `sine::is_clear` meets its contract: the upper word of the product is the table's. Assumes nothing.
use borrow.Author.Tests.{le-ltb, lt-ltb}
use Rattle.sine.specs.Sine.{is_clear}
use Rattle.sine.proofs.Words.{word-is}
use Rattle.sine.proofs.is_clear.Goals as goal

pub returns-then-n-lt32 : goal.returns-then-n-lt32
unfolding is_clear
returns-then-n-lt32 c = simp (lt-ltb _ _ c.if-n-lt32.true, c.high_word.ensures, c.requires, word-is c.args.n c.if-n-lt32.true)

pub returns : goal.returns
unfolding is_clear
returns c = simp (le-ltb _ _ c.if-n-lt32.false)
