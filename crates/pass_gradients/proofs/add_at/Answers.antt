-- `pass_gradients::add_at` meets its contract: each return follows from the tests and the calls on its way.
use Rattle.pass_gradients.specs.Work.{add_at}
use mathlib.Core.Path.{refl}
use Rattle.pass_gradients.proofs.add_at.Goals as goal

pub returns : goal.returns
unfolding add_at
returns c = refl
