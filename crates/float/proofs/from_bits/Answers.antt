-- `float::from_bits` meets its contract: a pattern above the infinity's is a NaN. Assumes nothing.
use Rattle.float.proofs.Facts.{from-nan, from-no-nan}
use Rattle.float.proofs.from_bits.Goals as goal

pub returns-then-b-gt9218868437227405312 : goal.returns-then-b-gt9218868437227405312
returns-then-b-gt9218868437227405312 c = from-nan c.args.b c.if-b-gt9218868437227405312.true

pub float_from_bits-result : goal.float_from_bits-result
float_from_bits-result c = from-no-nan c.args.b c.if-b-gt9218868437227405312.false
