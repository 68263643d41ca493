-- The weights of a point in a triangle and the interpolation of interp_angle, step by step. Definitions only.
use Rattle.std.specs.Prelude.{Bool, not, cond, ◌&&◌, List, get_or, Float, Option, Some, None, Result, Ok, Err}
use Rattle.std.specs.Float.Ieee.{neg, lt, le}
use Rattle.float.specs.Double.{lit, mag, is_finite, ◌⊕◌, ◌⊗◌, ◌⊘◌}
use Rattle.complex.specs.declared.Complex.{Complex}
use Rattle.complex.specs.Complex.{from_angle, cadd, cscale, is_zero}
use Rattle.complex.specs.Angle.{FIELD-SYMMETRY, cross_angle}
use Rattle.plane.specs.declared.Pair.{Pair}
use Rattle.plane.specs.Pair.{sub2, cross2, no-pair}
use Rattle.probe.specs.declared.Weights.{Weights}
use Rattle.probe.specs.declared.ProbeError.{ProbeError}
use Rattle.probe.specs.declared.ProbeError.TheVariants.{NoAngle}

-- a denominator is finite and above f64::MIN_POSITIVE in size
unfoldable pub usable : Float → Bool
usable d = is_finite d && not (le (mag d) (lit 0x0010_0000_0000_0000))

-- 1e-12
abbrev pub WEIGHT-SLACK : Float
WEIGHT-SLACK = lit 0x3d71_9799_812d_ea11

-- the 1e-12 test: neither below -1e-12 nor above 1 + 1e-12. A NaN passes it
unfoldable pub within : Float → Bool
within w = not (lt w (neg WEIGHT-SLACK)) && not (lt (lit 0x3ff0_0000_0000_0000 ⊕ WEIGHT-SLACK) w)

-- of the corner across from the side a b, seen from p, d being twice the triangle's signed area
unfoldable pub weight : Pair → Pair → Pair → Float → Float
weight p a b d = cross2 (sub2 a p) (sub2 b p) ⊘ d

-- the same, where it passes the test
unfoldable pub weight_within : Pair → Pair → Pair → Float → Option Float
weight_within p a b d = cond (within (weight p a b d)) (Some (weight p a b d)) None

unfoldable pub weighed_at : Pair → Pair → Pair → Pair → Float → Option Weights
weighed_at p a b c d =
    cond (within (weight p b c d) && within (weight p c a d) && within (weight p a b d)) (Some (record { i = weight p b c d; j = weight p c a d; k = weight p a b d })) None

abbrev pub weighed : Pair → List Pair → Float → Option Weights
weighed p ps d = weighed_at p (get_or ps 0 no-pair) (get_or ps 1 no-pair) (get_or ps 2 no-pair) d

-- the sum of the fourfold directions, by weights
unfoldable pub interpolated : Weights → Float → Float → Float → Complex
interpolated w a b c =
    let four = FIELD-SYMMETRY in
    cadd (cadd (cscale (from_angle (four ⊗ a)) w.i) (cscale (from_angle (four ⊗ b)) w.j)) (cscale (from_angle (four ⊗ c)) w.k)

-- the angle of a sum that does not vanish
unfoldable pub answered : Complex → Result (Option Float) ProbeError
answered z = cond (is_zero z) (Err NoAngle) (Ok (Some (cross_angle z)))
