-- `linear_layers::vectors_for` meets its contract: each return opens the definition and rewrites it by the tests and the calls on its way.
use Rattle.linear_layers.specs.Checked.{vectors_for}
use mathlib.Core.Path.{refl}
use Rattle.linear_layers.proofs.vectors_for.Goals as goal

pub returns : goal.returns
unfolding vectors_for
returns c = refl
