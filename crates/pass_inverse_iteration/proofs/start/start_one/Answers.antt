-- `pass_inverse_iteration::start::start_one` meets its contract: the definition by what its calls ensure.
use Rattle.pass_inverse_iteration.proofs.start.start_one.Goals as goal

pub returns : goal.returns
returns c = cc
