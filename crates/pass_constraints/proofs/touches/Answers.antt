-- `pass_constraints::touches` meets its contract: each return follows from the test and the calls on its way.
use mathlib.Core.Path.{◌∙◌}
use Rattle.pass_constraints.proofs.touches.Goals as goal

pub returns-then-is_on : goal.returns-then-is_on
returns-then-is_on c = rw (← c.index.ensures, ← c.is_on.ensures, c.if-is_on.true)

pub returns : goal.returns
returns c = c.is_on-2.ensures ∙ rw (← c.index.ensures, ← c.is_on.ensures, c.if-is_on.false, c.index-2.ensures)
