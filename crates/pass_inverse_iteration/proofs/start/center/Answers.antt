-- `pass_inverse_iteration::start::center` meets its contract: the definition, opened.
use mathlib.Core.Path.{refl}
use Rattle.pass_inverse_iteration.specs.Start.{center_of}
use Rattle.pass_inverse_iteration.proofs.start.center.Goals as goal

pub returns : goal.returns
unfolding center_of
returns c = refl
