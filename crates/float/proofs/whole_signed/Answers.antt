-- `float::whole_signed` meets its contract: each return opens the definition and rewrites it by the tests and the calls on its way; the laws are in proofs/Signed.
use Rattle.float.proofs.Signed.{signed_high, signed_low, signed-nan}
use lib.Ieee.{of_bits, neg}
use Rattle.std.proofs.Common.{T, sym, subst}
use Rattle.float.proofs.whole_signed.Goals as goal

pub truncating_f64_to_i64-requires : goal.truncating_f64_to_i64-requires
unfolding of_bits neg
truncating_f64_to_i64-requires c = record { lower_bound = subst T (sym c.if-x.true) tt; upper_bound = subst T (sym c.if-x-2.true) tt }

pub returns-then-x : goal.returns-then-x
returns-then-x c = signed_high c.args.x c.if-x.true c.if-x-2.false

pub returns-then-x-3 : goal.returns-then-x-3
returns-then-x-3 c = signed-nan c.args.x c.if-x-3.true

pub returns : goal.returns
returns c = signed_low c.args.x c.if-x.false c.if-x-3.false
