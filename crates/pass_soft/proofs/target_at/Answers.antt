-- `pass_soft::target_at` meets its contract: the definition, opened, by what its call ensures.
use Rattle.complex.specs.Guidance.{fourfold}
use Rattle.pass_soft.proofs.target_at.Goals as goal

pub returns : goal.returns
unfolding fourfold
returns c = cc
