-- `float::whole` meets its contract: between -1 and 2^64 the library's cast, and the ends of the range outside. Assumes nothing.
use Rattle.std.proofs.Common.{T, sym, subst}
use lib.Ieee.{of_bits, neg}
use Rattle.float.proofs.Facts.{not-above, not-below}
use Rattle.float.proofs.whole.Goals as goal

pub truncating_f64_to_u64-requires : goal.truncating_f64_to_u64-requires
unfolding of_bits neg
truncating_f64_to_u64-requires c = record { lower_bound = subst T (sym c.if-x.true) tt; upper_bound = subst T (sym c.if-x-2.true) tt }

pub returns-then-x : goal.returns-then-x
returns-then-x c = not-below c.args.x c.if-x.true c.if-x-2.false

pub returns : goal.returns
returns c = not-above c.args.x c.if-x.false
