-- `linear_layers::matrix_for` meets its contract: each return opens the definition and rewrites it by the tests and the calls on its way.
use Rattle.linear_layers.specs.Checked.{matrix_for}
use mathlib.Core.Path.{refl}
use Rattle.linear_layers.proofs.matrix_for.Goals as goal

pub returns : goal.returns
unfolding matrix_for
returns c = refl
