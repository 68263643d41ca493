-- triangle_geometry and triangle_gradient of the Rust, step by step, on three positions; and row 19 of the refusals. Definitions only.
use Rattle.std.specs.Prelude.{ℕ, Bool, not, cond, ◌||◌, List, [], ◌∷◌, get_or, Float, Result, Ok, Err}
use Rattle.std.specs.Float.{nan}
use Rattle.std.specs.Float.Ieee.{lt, le}
use Rattle.float.specs.Double.{lit, HALF, mag, is_finite, max_of, recip_of, ◌⊕◌, ◌⊗◌}
use Rattle.plane.specs.declared.Pair.{Pair}
use Rattle.plane.specs.Pair.{sub2, dot2, rotate90, scale2, no-pair, orientation}
use Rattle.geometry.specs.declared.Degenerate.{Degenerate}
use Rattle.geometry.specs.declared.TriangleGeometry.{TriangleGeometry}

-- the squared length of the side from p to q
unfoldable pub side2 : Pair → Pair → Float
side2 p q = dot2 (sub2 q p) (sub2 q p)

unfoldable pub longest : Pair → Pair → Pair → Float
longest p q r = max_of (max_of (side2 p q) (side2 q r)) (side2 r p)

unfoldable pub area_of : Float → Float
area_of t = HALF ⊗ mag t

-- 1e-14
abbrev pub SMALLEST-AREA : Float
SMALLEST-AREA = lit 0x3d06_849b_86a1_2b9b

-- row 19: the area w is not finite, or at most 1e-14 times the longest squared side
unfoldable pub degenerate : Pair → Pair → Pair → Float → Bool
degenerate p q r w = not (is_finite w) || le w (SMALLEST-AREA ⊗ longest p q r)

-- corners i, j, k at p, q, r, in this order, of the area w, as triangle t
unfoldable pub placed : ℕ → ℕ → ℕ → Pair → Pair → Pair → Float → ℕ → Result TriangleGeometry Degenerate
placed i j k p q r w t = cond (degenerate p q r w) (Err (record { triangle = t })) (Ok (record { i = i; j = j; k = k; p = p; q = q; r = r; area = w }))

-- where the area is negative, corners 1 and 2 are exchanged together with their positions
unfoldable pub geometry : ℕ → ℕ → ℕ → Pair → Pair → Pair → ℕ → Result TriangleGeometry Degenerate
geometry i j k p q r t = cond (lt (orientation p q r) (lit 0)) (placed i k j p r q (area_of (orientation p q r)) t) (placed i j k p q r (area_of (orientation p q r)) t)

-- the refusal's number and place that an answer stands for: 0 and none where it is no refusal
abbrev pub number : Result TriangleGeometry Degenerate → ℕ
number (Ok g) = 0
number (Err e) = 19

abbrev pub place : Result TriangleGeometry Degenerate → List ℕ
place (Ok g) = []
place (Err e) = e.triangle ∷ []

-- ---- triangle_gradient
unfoldable pub hat_gradient : Pair → Pair → Float → Pair
hat_gradient p q k = scale2 (rotate90 (sub2 q p)) k

unfoldable pub gradient : Pair → Pair → Pair → Float → Float → Float → Float → Pair
gradient p q r sp sq sr area =
    let inverse = recip_of (lit 0x4000_0000_0000_0000 ⊗ area) in
    let g0 = hat_gradient q r inverse in
    let g1 = hat_gradient r p inverse in
    let g2 = hat_gradient p q inverse in
    record { x = sp ⊗ g0.x ⊕ sq ⊗ g1.x ⊕ sr ⊗ g2.x; y = sp ⊗ g0.y ⊕ sq ⊗ g1.y ⊕ sr ⊗ g2.y }

-- ---- the same of arrays of three, which is how the program passes corners and positions
abbrev pub longest_of : List Pair → Float
longest_of ps = longest (get_or ps 0 no-pair) (get_or ps 1 no-pair) (get_or ps 2 no-pair)

abbrev pub placed_of : List ℕ → List Pair → Float → ℕ → Result TriangleGeometry Degenerate
placed_of vs ps w t = placed (get_or vs 0 0) (get_or vs 1 0) (get_or vs 2 0) (get_or ps 0 no-pair) (get_or ps 1 no-pair) (get_or ps 2 no-pair) w t

abbrev pub geometry_of : List ℕ → List Pair → ℕ → Result TriangleGeometry Degenerate
geometry_of vs ps t = geometry (get_or vs 0 0) (get_or vs 1 0) (get_or vs 2 0) (get_or ps 0 no-pair) (get_or ps 1 no-pair) (get_or ps 2 no-pair) t

abbrev pub gradient_of : List Pair → List Float → Float → Pair
gradient_of ps ss area = gradient (get_or ps 0 no-pair) (get_or ps 1 no-pair) (get_or ps 2 no-pair) (get_or ss 0 nan) (get_or ss 1 nan) (get_or ss 2 nan) area

-- ---- a floor's point v, by the coordinates x and y of its points
abbrev pub at : (ℕ → Float) → (ℕ → Float) → ℕ → Pair
at x y v = record { x = x v; y = y v }
