-- `pass_soft::align` meets its contract: its two calls; the law is in proofs/Targets.
use Rattle.pass_soft.proofs.Targets.{align-all}
use Rattle.pass_soft.proofs.align.Goals as goal

pub returns : goal.returns
returns c = search align-all
