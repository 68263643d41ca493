-- `pass_branches::terms_of` meets its contract: the struct, with what its call ensures.
use Rattle.pass_branches.proofs.terms_of.Goals as goal

pub returns : goal.returns
returns c = cc
