-- `replay_solves::wanted` meets its contract: what is called answers by its definition, and each test decides its arm.
use borrow.Author.Tests.{eq-eqb, ne_eqb}
use Rattle.replay_solves.proofs.wanted.Goals as goal

pub returns-then-kind-eq0 : goal.returns-then-kind-eq0
returns-then-kind-eq0 c = simp (eq-eqb _ _ c.if-kind-eq0.true)

pub returns-then-kind-eq1 : goal.returns-then-kind-eq1
returns-then-kind-eq1 c = simp (c.has_minus_zero.ensures, eq-eqb _ _ c.if-kind-eq1.true, ne_eqb _ _ c.if-kind-eq0.false)

pub returns : goal.returns
returns c = simp (c.has_nan.ensures, ne_eqb _ _ c.if-kind-eq1.false, ne_eqb _ _ c.if-kind-eq0.false)
