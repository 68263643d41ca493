-- `pass_constraints::is_on` meets its contract: the definition is the test.
use mathlib.Core.Path.{refl}
use Rattle.pass_constraints.specs.Constraints.{on}
use Rattle.pass_constraints.proofs.is_on.Goals as goal

pub returns : goal.returns
unfolding on
returns c = refl
