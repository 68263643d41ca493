-- Guidance, and rows 9 to 17 of document 01's table: what is wrong with options and guidance, in the order in which validate_options and
-- validate_guidance test it. Definitions only.
use Rattle.std.specs.Prelude.{ℕ, Bool, true, false, not, cond, ◌&&◌, ◌||◌, List, [], ◌∷◌, eqb, ltb, length, get_or, Float}
use Rattle.std.specs.Float.{nan}
use Rattle.std.specs.Float.Ieee.{neg, lt, le}
use Rattle.float.specs.Double.{lit, mag, is_finite, not_positive}
use Rattle.complex.specs.Angle.{LARGEST-ANGLE}
use Rattle.floor.specs.Checks.{lowest, not_finite_or_below_zero}
use Rattle.pass_options.specs.declared.BoundaryMode.{BoundaryMode}
use Rattle.pass_options.specs.declared.BoundaryMode.TheVariants.{None, Tangent, Weak}
use Rattle.pass_options.specs.declared.Options.{Options}
use Rattle.pass_options.specs.Table.{Row, row_if, row_among}

-- "guidance or none": a weight, and a target angle for each point
pub data Guidance : Type 0 where
  unguided : Guidance
  guided : Float → List Float → Guidance

-- "Option guidance a flag beside slices"
abbrev pub guidance_of : Bool → Float → List Float → Guidance
guidance_of true weight angles = guided weight angles
guidance_of false weight angles = unguided

-- its angles; none where there is no guidance
abbrev pub angles_of : Guidance → List Float
angles_of unguided = []
angles_of (guided weight angles) = angles

-- ---- conditions, with floor's "not finite and positive" for row 10 and "not finite or below 0" for rows 12 to 14

-- row 9: "not finite in −1 to 1"
unfoldable pub bad_holomorphic : Float → Bool
bad_holomorphic h = not (is_finite h && (le (neg (lit 0x3ff0_0000_0000_0000)) h && le h (lit 0x3ff0_0000_0000_0000)))

-- row 13, of the boundary mode
abbrev pub bad_boundary : BoundaryMode → Bool
bad_boundary None = false
bad_boundary Tangent = false
bad_boundary (Weak weight) = not_finite_or_below_zero weight

-- rows 14 and 15, of guidance over n points
abbrev pub bad_weight : Guidance → Bool
bad_weight unguided = false
bad_weight (guided weight angles) = not_finite_or_below_zero weight

abbrev pub bad_count : ℕ → Guidance → Bool
bad_count n unguided = false
bad_count n (guided weight angles) = not (eqb (length angles) n)

-- row 16
unfoldable pub not_finite_at : List Float → ℕ → Bool
not_finite_at angles i = not (is_finite (get_or angles i nan))

-- row 17: "over 131,072 in size"
unfoldable pub too_large : Float → Bool
too_large x = lt LARGEST-ANGLE (mag x)

unfoldable pub too_large_at : List Float → ℕ → Bool
too_large_at angles i = too_large (get_or angles i nan)

-- "anisotropy angle (place n), else a guidance angle": the lowest guidance angle that is too large, where the anisotropy angle is not
unfoldable pub large_place : ℕ → Float → List Float → ℕ
large_place n axis angles = cond (too_large axis) n (lowest (too_large_at angles) (length angles))

unfoldable pub any_large : Float → List Float → Bool
any_large axis angles = too_large axis || ltb (lowest (too_large_at angles) (length angles)) (length angles)

-- ---- rows

abbrev pub option_rows : Options → List Row
option_rows o =
    row_if 9 (bad_holomorphic o.holomorphic) ∷
    row_if 10 (not_positive o.anisotropy) ∷
    row_if 11 (not (is_finite o.anisotropy_angle)) ∷
    row_if 12 (not_finite_or_below_zero o.adaptive) ∷
    row_if 13 (bad_boundary o.boundary) ∷ []

abbrev pub guidance_rows : ℕ → Guidance → List Row
guidance_rows n g =
    row_if 14 (bad_weight g) ∷
    row_if 15 (bad_count n g) ∷
    row_among 16 (not_finite_at (angles_of g)) (length (angles_of g)) ∷ []

abbrev pub large_row : ℕ → Options → Guidance → Row
large_row n o g = record { number = 17; holds = any_large o.anisotropy_angle (angles_of g); place = large_place n o.anisotropy_angle (angles_of g) }
