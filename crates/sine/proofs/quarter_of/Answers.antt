-- `sine::quarter_of` meets its contract: the two arms of `quarter`. Assumes nothing.
use borrow.Author.Tests.{le-ltb, lt-ltb}
use Rattle.sine.proofs.quarter_of.Goals as goal

pub returns-then-ix-gt1072234496 : goal.returns-then-ix-gt1072234496
returns-then-ix-gt1072234496 c = simp (lt-ltb _ _ c.if-ix-gt1072234496.true)

pub returns : goal.returns
returns c = simp (le-ltb _ _ c.if-ix-gt1072234496.false, c.from_bits.ensures)
