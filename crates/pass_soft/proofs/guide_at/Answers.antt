-- `pass_soft::guide_at` meets its contract: the definition by what its calls ensure.
use Rattle.pass_soft.proofs.guide_at.Goals as goal

pub returns : goal.returns
returns c = cc
