-- `sine::rem_deep` meets its contract: the two arms of `rem_deep`. Assumes nothing.
use borrow.Author.Tests.{le-ltb, lt-ltb}
use Rattle.sine.specs.Sine.{rem_deep}
use Rattle.sine.proofs.rem_deep.Goals as goal

pub returns-then-exponent-j : goal.returns-then-exponent-j
unfolding rem_deep
returns-then-exponent-j c = simp (← c.exponent.ensures, lt-ltb _ _ c.if-exponent-j.true, c.split.ensures)

pub returns : goal.returns
unfolding rem_deep
returns c = simp (← c.exponent.ensures, le-ltb _ _ c.if-exponent-j.false, c.split-2.ensures)
