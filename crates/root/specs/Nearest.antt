-- What it means that y is the double nearest to the square root of x, in whole numbers of the format's smallest unit, 2 ^ -1074. Definitions only.
-- Where x is X units, its root is the square root of X * 2 ^ 1074 units. Where y is Y units and another double z is Z units, y lies nearer to the root than z exactly
-- if the midpoint (Y + Z) / 2 lies on z's side of the root: that is, if (Y + Z) * (Y + Z) is below X * 2 ^ 1076 for a z below y, and above it for a z above y.
-- Both are strict, so no other double is as near: a tie cannot occur, and "ties to even" is never called for. A negative z is farther away than the zero is, which is among the doubles below y.
use Rattle.std.specs.Prelude.{ℕ, ◌+◌, ◌*◌, ◌^◌, ◌<◌, false, T, Float}
use Rattle.std.specs.Float.{binary64}
use Rattle.std.specs.Float.Ieee.{fits}
use Rattle.std.specs.Float.Ieee.Exact.{HasValue}

-- z is a double of Z units, not negative
pub record Double (z : Float) (Z : ℕ) : Type 0 where
  pub held : T (fits binary64 z)
  pub units : HasValue z false Z (2 ^ 1074)

pub record Nearest (x y : Float) : Type 0 where
  pub X : ℕ
  pub Y : ℕ
  pub is_x : HasValue x false X (2 ^ 1074)
  pub is_y : HasValue y false Y (2 ^ 1074)
  pub below : (z : Float) (Z : ℕ) → Double z Z → Z < Y → (Y + Z) * (Y + Z) < X * 2 ^ 1076
  pub above : (z : Float) (Z : ℕ) → Double z Z → Y < Z → X * 2 ^ 1076 < (Y + Z) * (Y + Z)
