-- `arctangent::at_infinity` meets its contract: the arms of `at_infinity`. Assumes nothing.
use borrow.Author.Tests.{eq-eqb, ne_eqb}
use Rattle.arctangent.specs.Arc.{at_infinity}
use Rattle.arctangent.proofs.at_infinity.Goals as goal

pub returns-then-iy-eq2146435072 : goal.returns-then-iy-eq2146435072
unfolding at_infinity
returns-then-iy-eq2146435072 c = simp (eq-eqb _ _ c.if-iy-eq2146435072.true, c.switch_of.ensures)

pub returns : goal.returns
unfolding at_infinity
returns c = simp (ne_eqb _ _ c.if-iy-eq2146435072.false, c.switch_of-2.ensures)
