-- `pass_gradients::add_triangle` meets its contract: each return follows from the tests and the calls on its way.
use mathlib.Core.Path.{◌∙◌}
use Rattle.pass_gradients.proofs.add_triangle.Goals as goal

pub returns : goal.returns
returns c =
    c.add_three-3.ensures ∙ rw (c.add_three-2.ensures, c.add_three.ensures)
