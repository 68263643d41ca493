-- `pass_inverse_iteration::average` meets its contract: the definition, opened, by what its call ensures.
use Rattle.pass_inverse_iteration.specs.Inverse.{average_of}
use Rattle.pass_inverse_iteration.proofs.average.Goals as goal

pub returns : goal.returns
unfolding average_of
returns c = cc
