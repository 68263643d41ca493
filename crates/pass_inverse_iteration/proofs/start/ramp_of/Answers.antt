-- `pass_inverse_iteration::start::ramp_of` meets its contract: the definition, opened, by what its calls ensure.
use Rattle.pass_inverse_iteration.specs.Start.{ramp_of, span_of}
use Rattle.pass_inverse_iteration.proofs.start.ramp_of.Goals as goal

pub returns : goal.returns
unfolding ramp_of span_of
returns c = cc
