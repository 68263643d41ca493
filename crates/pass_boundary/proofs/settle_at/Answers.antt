-- `pass_boundary::settle_at` meets its contract: each return follows from the calls on its way.
use Rattle.pass_boundary.specs.Work.{settle_c}
use Rattle.pass_boundary.proofs.settle_at.Goals as goal

pub returns : goal.returns
unfolding settle_c
returns c = cc
