-- `pass_inverse_iteration::start::bounds_at` meets its contract: what `min` and `max` ensure, at what was loaded.
use Rattle.pass_inverse_iteration.proofs.start.bounds_at.Goals as goal

pub returns : goal.returns
returns c = (cc, cc)
