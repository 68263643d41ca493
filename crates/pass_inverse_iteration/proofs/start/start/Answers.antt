-- `pass_inverse_iteration::start::start` meets its contract: its three calls in order; the law is in proofs/Ramps.
use Rattle.pass_inverse_iteration.proofs.Ramps.{start-all}
use Rattle.pass_inverse_iteration.proofs.start.start.Goals as goal

pub returns : goal.returns
returns c = search start-all
