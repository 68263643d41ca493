-- `pass_inverse_iteration::start::start_at` meets its contract: the definition, opened, by what its calls ensure.
use Rattle.pass_inverse_iteration.specs.Start.{start_at}
use Rattle.pass_inverse_iteration.proofs.start.start_at.Goals as goal

pub returns : goal.returns
unfolding start_at
returns c = cc
