-- `float::bits` meets its contract: a NaN has the one pattern that `to_bits` writes. Assumes nothing.
use Rattle.float.proofs.Facts.{nan-bits, no_nan}
use Rattle.float.proofs.bits.Goals as goal

pub returns-then-x : goal.returns-then-x
returns-then-x c = nan-bits c.args.x c.if-x.true

pub float_to_bits-result : goal.float_to_bits-result
float_to_bits-result c = no_nan c.args.x c.if-x.false
