-- `pass_gradients::gradient_of` meets its contract: each return follows from the tests and the calls on its way.
use mathlib.Core.Path.{◌∙◌}
use Rattle.pass_gradients.proofs.gradient_of.Goals as goal

pub returns : goal.returns
returns c = c.triangle_gradient.ensures ∙ rw (c.position-d.ensures, c.position-c.ensures, c.position-b.ensures)
