-- `pass_boundary::settle_one` meets its contract: each return opens the definition and rewrites it by the test and the calls on its way.
use mathlib.Core.Path.{◌∙◌}
use borrow.Author.Tests.{eq-eqb, ne_eqb}
use Rattle.pass_boundary.specs.Work.{settled_at}
use Rattle.pass_boundary.proofs.settle_one.Goals as goal

pub returns-then-flag-eq1 : goal.returns-then-flag-eq1
unfolding settled_at
returns-then-flag-eq1 c = c.normal.ensures ∙ rw (eq-eqb _ _ c.if-flag-eq1.true)

pub returns : goal.returns
unfolding settled_at
returns c = rw (ne_eqb _ _ c.if-flag-eq1.false)
