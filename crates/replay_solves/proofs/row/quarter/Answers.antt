-- `replay_solves::row::quarter` meets its contract: what is called answers by its definition, and each test decides its arm.
use borrow.Author.Tests.{eq-eqb, ne_eqb}
use Rattle.replay_solves.proofs.row.quarter.Goals as goal

pub returns-then-i-eq0 : goal.returns-then-i-eq0
returns-then-i-eq0 c = simp (eq-eqb _ _ c.if-i-eq0.true, c.word-w.ensures)

pub returns-then-i-eq1 : goal.returns-then-i-eq1
returns-then-i-eq1 c = simp (eq-eqb _ _ c.if-i-eq1.true, ne_eqb _ _ c.if-i-eq0.false, c.word-w.ensures)

pub returns-then-i-eq2 : goal.returns-then-i-eq2
returns-then-i-eq2 c = simp (eq-eqb _ _ c.if-i-eq2.true, ne_eqb _ _ c.if-i-eq1.false, ne_eqb _ _ c.if-i-eq0.false, c.word-w.ensures)

pub returns : goal.returns
returns c = simp (ne_eqb _ _ c.if-i-eq2.false, ne_eqb _ _ c.if-i-eq1.false, ne_eqb _ _ c.if-i-eq0.false, c.word-w.ensures)
