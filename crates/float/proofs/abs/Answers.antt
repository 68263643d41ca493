-- `float::abs` meets its contract: clearing the sign's bit of the pattern is `mag`. Assumes nothing.
use Rattle.std.proofs.Common.{◌≡◌, true, T, sym, subst}
use lib.Ieee.{Float, binary64, fits}
use Rattle.float.proofs.Facts.{abs-nan, abs-bits, abs-no-nan, no_nan}
use Rattle.float.proofs.abs.Goals as goal

held : (x : Float) → fits binary64 x ≡ true → T (fits binary64 x)
held x e = subst T (sym e) tt

pub returns-then-x : goal.returns-then-x
returns-then-x c = abs-nan c.args.x c.if-x.true

pub float_to_bits-result : goal.float_to_bits-result
float_to_bits-result c = no_nan c.args.x c.if-x.false

pub float_from_bits-result : goal.float_from_bits-result
float_from_bits-result c = abs-no-nan c.args.x (held _ c.well_formed.0.1) c.if-x.false

pub returns : goal.returns
returns c = abs-bits c.args.x (held _ c.well_formed.0.1)
