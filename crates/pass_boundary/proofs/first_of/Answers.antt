-- `pass_boundary::first_of` meets its contract: each return follows from the tests and the calls on its way.
use mathlib.Core.Path.{◌∙◌}
use borrow.Author.Tests.{eq-eqb, ne_eqb}
use Rattle.pass_boundary.proofs.first_of.Goals as goal

pub returns-then-u-flags-eq0 : goal.returns-then-u-flags-eq0
returns-then-u-flags-eq0 c = rw (eq-eqb _ _ c.if-u-flags-eq0.true)

pub returns : goal.returns
returns c = c.load.ensures ∙ rw (ne_eqb _ _ c.if-u-flags-eq0.false)
