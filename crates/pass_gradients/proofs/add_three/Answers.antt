-- `pass_gradients::add_three` meets its contract: each return follows from the tests and the calls on its way.
use Rattle.pass_gradients.specs.Work.{add_three}
use mathlib.Core.Path.{◌∙◌}
use Rattle.pass_gradients.proofs.add_three.Goals as goal

pub returns : goal.returns
unfolding add_three
returns c =
    c.add_at-3.ensures ∙ rw (c.add_at-2.ensures, c.add_at.ensures)
