-- interp_angle over slices: angles by point, coordinates by threes, corners by threes. The tests come in document 01's order: whole triples,
-- as many angles as points, all angles finite, none above 131,072 in size; then the triangles in list order. Definitions only.
use Rattle.std.specs.Prelude.{ℕ, zero, suc, ◌+◌, ◌*◌, ◌/◌, ◌%◌, Bool, true, not, cond, ◌&&◌, List, [], ◌∷◌, ltb, eqb, get_or, length, Float, Option, Some, None, Result, Ok, Err}
use Rattle.std.specs.Float.{nan}
use Rattle.std.specs.Float.Ieee.{lt, le, neg}
use Rattle.float.specs.Double.{mag, is_finite}
use Rattle.complex.specs.Angle.{LARGEST-ANGLE, IsCross}
use Rattle.plane.specs.declared.Pair.{Pair}
use Rattle.plane.specs.Pair.{no-pair, orientation}
use Rattle.probe.specs.declared.Weights.{Weights}
use Rattle.probe.specs.declared.ProbeError.{ProbeError}
use Rattle.probe.specs.declared.ProbeError.TheVariants.{NotTriples, NoAngle, TooLarge}
use Rattle.probe.specs.Weights.{usable, weighed_at, interpolated, answered}

abbrev pub every : (Float → Bool) → List Float → Bool
every p [] = true
every p (x ∷ xs) = p x && every p xs

abbrev pub finite : Float → Bool
finite x = is_finite x

-- at most 131,072 in size
abbrev pub small : Float → Bool
small x = not (lt LARGEST-ANGLE (mag x))

-- both, as the code tests them
abbrev pub taken : Float → Bool
taken x = le x LARGEST-ANGLE && le (neg LARGEST-ANGLE) x

-- x and y of point v; z is not read
abbrev pub corner_at : List Float → ℕ → Pair
corner_at pts v = record { x = get_or pts (3 * v) nan; y = get_or pts (3 * v + 1) nan }

-- what a triangle with the angles a, b, c says by the weights: an angle, none, or that the sum vanishes
abbrev pub told : Option Weights → Float → Float → Float → Result (Option Float) ProbeError
told (Some w) a b c = answered (interpolated w a b c)
told None a b c = Ok None

-- of a triangle with corners at p, q, r; its weights are over twice its signed area
unfoldable pub visited : Pair → Pair → Pair → Pair → Float → Float → Float → Result (Option Float) ProbeError
visited at p q r a b c =
    cond (usable (orientation p q r)) (told (weighed_at at p q r (orientation p q r)) a b c) (Ok None)

-- the same of an array of three
abbrev pub visited_by : Pair → List Pair → Float → Float → Float → Result (Option Float) ProbeError
visited_by at ps a b c = visited at (get_or ps 0 no-pair) (get_or ps 1 no-pair) (get_or ps 2 no-pair) a b c

-- of the points i, j, k: passed over where one of them is out of range
unfoldable pub visit_of : List Float → List Float → Pair → ℕ → ℕ → ℕ → Result (Option Float) ProbeError
visit_of alpha pts at i j k =
    cond (ltb i (length alpha) && ltb j (length alpha) && ltb k (length alpha))
    (visited at (corner_at pts i) (corner_at pts j) (corner_at pts k) (get_or alpha i nan) (get_or alpha j nan) (get_or alpha k nan)) (Ok None)

-- of triangle t
unfoldable pub visit_at : List Float → List Float → List ℕ → Pair → ℕ → Result (Option Float) ProbeError
visit_at alpha pts tris at t = visit_of alpha pts at (get_or tris (3 * t) 0) (get_or tris (3 * t + 1) 0) (get_or tris (3 * t + 2) 0)

-- the first of the triangles t, t + 1, .., k of them, that is not passed over
abbrev pub decided : Result (Option Float) ProbeError → Result Float ProbeError → Result Float ProbeError
decided (Ok None) later = later
decided (Ok (Some a)) later = Ok a
decided (Err e) later = Err e

unfoldable pub found_from : (ℕ → Result (Option Float) ProbeError) → ℕ → ℕ → Result Float ProbeError
found_from v t zero = Err NoAngle
found_from v t (suc k) = decided (v t) (found_from v (suc t) k)

unfoldable pub probe_of : List Float → List Float → List ℕ → Pair → Result Float ProbeError
probe_of alpha pts tris at =
    cond (eqb (length pts % 3) 0 && eqb (length tris % 3) 0)
    (cond (eqb (length alpha) (length pts / 3) && every finite alpha)
    (cond (every small alpha) (found_from (visit_at alpha pts tris at) 0 (length tris / 3)) (Err TooLarge))
    (Err NoAngle))
    (Err NotTriples)

-- an angle that is answered lies in [0, FRAC_PI_2)
abbrev pub AngleRange : Result Float ProbeError → Type 0
AngleRange (Ok a) = IsCross a
AngleRange (Err e) = Unit {0}

-- the number of an error: 1 is document 01's refusal, 2 its "no angle" and 3 its "angle too large". It has no place
abbrev pub error_number : ProbeError → ℕ
error_number NotTriples = 1
error_number NoAngle = 2
error_number TooLarge = 3

-- the answer's number: 0 is an angle
abbrev pub number : Result Float ProbeError → ℕ
number (Ok a) = 0
number (Err e) = error_number e

-- its value, or what was held where it has none
abbrev pub angle_or : Result Float ProbeError → Float → Float
angle_or (Ok a) held = a
angle_or (Err e) held = held
