-- `float::is_finite` meets its contract: the finite values are those whose size is below the infinity. Assumes nothing.
use Rattle.float.proofs.Facts.{finite-is}
use Rattle.float.proofs.is_finite.Goals as goal

pub returns : goal.returns
returns c = rw c.abs.ensures (finite-is c.args.x)
