-- `float::rem_euclid` meets its contract: the arms of `rem_euclid`, and that the remainder of a smaller number is that number. Assumes nothing.
use Rattle.std.proofs.Common.{◌≡◌, true, T, sym, subst}
use lib.Ieee.{Float, binary64, fits, rem, lt}
use Rattle.float.specs.Double.{mag}
use Rattle.float.proofs.Own.{rem-small}
use Rattle.float.proofs.rem_euclid.Goals as goal

-- where |x| is below |y|

itself : (x y a b : Float) → fits binary64 x ≡ true → a ≡ mag x → b ≡ mag y → lt a b ≡ true → rem binary64 x y ≡ x
itself x y a b held e g h = rem-small x y (subst T (sym held) tt) (rw (e, g) at h)

pub returns-then-x : goal.returns-then-x
returns-then-x c = simp (itself _ _ _ _ c.well_formed.0.1 c.abs.ensures c.abs-size.ensures c.if-abs-size.true, c.if-x.true, c.abs-size.ensures)

pub returns-then-abs-size : goal.returns-then-abs-size
returns-then-abs-size c = simp (itself _ _ _ _ c.well_formed.0.1 c.abs.ensures c.abs-size.ensures c.if-abs-size.true, c.if-x.false)

pub returns-then-r : goal.returns-then-r
returns-then-r c = simp (← c.remainder-r.ensures, c.if-r.true, c.abs-size.ensures)

pub returns : goal.returns
returns c = simp (← c.remainder-r.ensures, c.if-r.false)
