-- `sine::rem_near` meets its contract: the four arms of `rem_near`. Assumes nothing.
use borrow.Author.Tests.{eq-eqb, ne_eqb}
use Rattle.sine.specs.Sine.{rem_near}
use Rattle.sine.proofs.rem_near.Goals as goal

pub returns-then-ix-ne1073291771 : goal.returns-then-ix-ne1073291771
unfolding rem_near
returns-then-ix-ne1073291771 c = simp (c.if-positive.true, ne_eqb _ _ c.if-ix-ne1073291771.true, c.split.ensures, ← c.requires)

pub returns-then-positive : goal.returns-then-positive
unfolding rem_near
returns-then-positive c = simp (c.if-positive.true, eq-eqb _ _ c.if-ix-ne1073291771.false, c.split-then-positive.ensures, ← c.requires)

pub returns-then-ix-ne1073291771-2 : goal.returns-then-ix-ne1073291771-2
unfolding rem_near
returns-then-ix-ne1073291771-2 c = simp (c.if-positive.false, ne_eqb _ _ c.if-ix-ne1073291771-2.true, ← c.requires)

pub returns : goal.returns
unfolding rem_near
returns c = simp (c.if-positive.false, eq-eqb _ _ c.if-ix-ne1073291771-2.false, ← c.requires)
