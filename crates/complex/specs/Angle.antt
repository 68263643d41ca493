-- cross_angle and wrap_to_pi, step by step. Definitions only.
use Rattle.std.specs.Prelude.{◌≡◌, true, false, cond, ◌&&◌, Float}
use Rattle.std.specs.Float.{nan}
use Rattle.std.specs.Float.Ieee.{neg, lt, le}
use Rattle.float.specs.Double.{lit, is_finite, rem_euclid, FRAC-PI-2, PI, TAU, ◌⊕◌, ◌⊖◌, ◌⊘◌}
use Rattle.complex.specs.declared.Complex.{Complex}
use Rattle.complex.specs.Complex.{argument_of}

-- FIELD_SYMMETRY, 4: a cross looks the same after a quarter turn
abbrev pub FIELD-SYMMETRY : Float
FIELD-SYMMETRY = lit 0x4010_0000_0000_0000

-- 131,072: no call takes an angle above it in size
abbrev pub LARGEST-ANGLE : Float
LARGEST-ANGLE = lit 0x4100_0000_0000_0000

-- an angle that lies in [0, FRAC_PI_2) stays, -0 too, and any other becomes 0
unfoldable pub in_range : Float → Float
in_range a = cond (le (lit 0) a && lt a FRAC-PI-2) a (lit 0)

-- a quarter of the argument, moved by whole quarter turns
unfoldable pub cross_angle : Complex → Float
cross_angle z = in_range (rem_euclid (argument_of z ⊘ FIELD-SYMMETRY) FRAC-PI-2)

-- -PI itself, and what rounding leaves below it, go up by a whole turn
unfoldable pub unwound : Float → Float
unwound w = cond (le w (neg PI)) (w ⊕ TAU) w

unfoldable pub wrap_to_pi : Float → Float
wrap_to_pi x = unwound (rem_euclid (x ⊕ PI) TAU ⊖ PI)

-- ---- where they lie
-- a lies in [0, FRAC_PI_2), -0 counted in
pub record IsCross (a : Float) : Type 0 where
  pub from : le (lit 0) a ≡ true
  pub below : lt a FRAC-PI-2 ≡ true

-- w lies in (-PI, PI]
pub record IsWrapped (w : Float) : Type 0 where
  pub above : lt (neg PI) w ≡ true
  pub to : le w PI ≡ true

-- what wrap_to_pi makes of x, by whether x + PI is finite
abbrev pub WrapRange : Float → Float → Type 0
WrapRange x w = (is_finite (x ⊕ PI) ≡ true → IsWrapped w) × (is_finite (x ⊕ PI) ≡ false → w ≡ nan)
