-- `arctangent::is_zero` meets its contract: the test of the pattern that `float::bits` gives. Assumes nothing.
use Rattle.arctangent.proofs.is_zero.Goals as goal

pub returns : goal.returns
returns c = rw c.bits.ensures
