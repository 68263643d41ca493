-- triangle_field_variation and the test against the threshold, in the Rust's operation order. Definitions only.
use Rattle.std.specs.Prelude.{ℕ, Bool, not, cond, ◌||◌, List, get_or, Float}
use Rattle.std.specs.Float.{nan}
use Rattle.std.specs.Float.Ieee.{le, lt}
use Rattle.float.specs.Double.{lit, is_finite, rem_euclid, max_of, min_of, FRAC-PI-2, ◌⊖◌}
use Rattle.mesh.specs.Mesh.{Tri, tri}

-- how far the field turns along a side: "d or FRAC_PI_2 − d, the smaller, where d is the angle difference by `rem_euclid` FRAC_PI_2"
unfoldable pub turn_along : Float → Float → Float
turn_along a b = min_of (rem_euclid (a ⊖ b) FRAC-PI-2) (FRAC-PI-2 ⊖ rem_euclid (a ⊖ b) FRAC-PI-2)

-- the same with "a side with an angle, or a difference of its angles, not finite turns by 0": the Rust gets a NaN there, and its `max` drops it
unfoldable pub turns_by : Float → Float → Float
turns_by a b = cond (is_finite (a ⊖ b)) (turn_along a b) (lit 0)

-- the largest of three turns, as the Rust takes it
abbrev pub largest : Float → Float → Float → Float
largest x y z = max_of (max_of (max_of (lit 0) x) y) z

-- "a triangle's variation is the largest over its sides"
unfoldable pub variation : Float → Float → Float → Float
variation a b c = largest (turn_along a b) (turn_along b c) (turn_along c a)

-- "flagged means strictly above the threshold": refine_once passes over a triangle whose variation is at most the threshold
unfoldable pub flagged : Float → Float → Float → Float → Bool
flagged threshold a b c = not (le (variation a b c) threshold)

-- the angle of a point, from the list of angles
abbrev pub angle : List Float → ℕ → Float
angle alpha v = get_or alpha v nan

unfoldable pub flagged_tri : Float → List Float → Tri → Bool
flagged_tri threshold alpha (tri a b c) = flagged threshold (angle alpha a) (angle alpha b) (angle alpha c)

-- "the field turns by more than the threshold" on one of the triangle's sides
abbrev pub turns_more : Float → List Float → Tri → Bool
turns_more threshold alpha (tri a b c) = lt threshold (turns_by (angle alpha a) (angle alpha b)) || lt threshold (turns_by (angle alpha b) (angle alpha c)) || lt threshold (turns_by (angle alpha c) (angle alpha a))
