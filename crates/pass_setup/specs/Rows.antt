-- Rows 19 to 22 of document 01's table, in its words, of a floor as rows 3 to 8 leave it. A floor is refused by one of them exactly if it holds and no
-- earlier one does: `setup-rows` in proofs/Rows. Definitions only.
use Rattle.std.specs.Prelude.{ℕ, ◌<◌, ◌≡◌, ◌⊎◌, true, false, cond, T, length, get_or, Float}
use Rattle.std.specs.Float.{inf, binary64}
use Rattle.std.specs.Float.Ieee.{lt, le, fits}
use Rattle.float.specs.Double.{lit, HALF, is_finite, not_positive, ◌⊕◌, ◌⊗◌, ◌⊘◌}
use Rattle.plane.specs.declared.Pair.{Pair}
use Rattle.mesh.specs.Mesh.{Tri, tri, All}
use Rattle.mesh.specs.Claim.{InRange}
use Rattle.floor.specs.Floor.{Floor, point_count, triangle_count, value_at, triangle_at}
use Rattle.plane.specs.Pair.{orientation}
use Rattle.geometry.specs.Triangle.{longest, area_of, SMALLEST-AREA, at}
use Rattle.refusals.specs.declared.Refusal.{Refusal}
use Rattle.refusals.specs.Refusal.{row_at, between}
use Rattle.pass_setup.specs.Setup.{sum_x, sum_y, weight_of, edges_of, lowers_of, uppers_of}

-- ---- a floor as rows 3 to 8 leave it

-- x is a finite double. Every number of a slice is a double
abbrev pub IsFinite : Float → Type 0
IsFinite x = T (is_finite x) × T (fits binary64 x)

pub record SoundFloor (f : Floor) : Type 0 where
  -- rows 3 and 4
  pub some-points : 0 < point_count f
  pub some-triangles : 0 < triangle_count f
  -- row 5; and a y for each x
  pub as_many : length f.ys ≡ point_count f
  pub sized : length f.sizes ≡ point_count f
  -- row 6
  pub finite : (v : ℕ) → v < point_count f → IsFinite (value_at f.xs v) × IsFinite (value_at f.ys v)
  -- row 7
  pub positive : (v : ℕ) → v < point_count f → (not_positive (value_at f.sizes v) ≡ false) × T (fits binary64 (value_at f.sizes v))
  -- row 8
  pub corners : All (InRange (point_count f)) f.triangles

-- ---- row 19: "area not finite, or ≤ 1e-14 × longest squared side"

abbrev pub corner_at : Floor → ℕ → Pair
corner_at f v = at (value_at f.xs) (value_at f.ys) v

-- twice the signed area of a triangle, and its area
abbrev pub signed_on : Floor → Tri → Float
signed_on f (tri a b c) = orientation (corner_at f a) (corner_at f b) (corner_at f c)

abbrev pub area_on : Floor → Tri → Float
area_on f s = area_of (signed_on f s)

-- the longest squared side; "negative area swaps corners 1 and 2 with their positions"
abbrev pub longest_on : Floor → Tri → Float
longest_on f (tri a b c) =
    cond (lt (signed_on f (tri a b c)) (lit 0)) (longest (corner_at f a) (corner_at f c) (corner_at f b)) (longest (corner_at f a) (corner_at f b) (corner_at f c))

abbrev pub Degenerate : Floor → Tri → Type 0
Degenerate f s = (is_finite (area_on f s) ≡ false) ⊎ (le (area_on f s) (SMALLEST-AREA ⊗ longest_on f s) ≡ true)

abbrev pub Row19 : Floor → ℕ → Type 0
Row19 f t = Degenerate f (triangle_at f.triangles t)

-- ---- rows 20 and 21, of a point v

abbrev pub IsCorner : ℕ → Tri → Type 0
IsCorner v (tri a b c) = (v ≡ a) ⊎ (v ≡ b) ⊎ (v ≡ c)

-- row 20: "point in no triangle, or the areas of its triangles add to infinity"
abbrev pub Row20 : Floor → ℕ → Type 0
Row20 f v = ((t : ℕ) → t < triangle_count f → ¬ IsCorner v (triangle_at f.triangles t)) ⊎ (weight_of f v ≡ inf false)

-- row 21: "size gradient not finite"
abbrev pub Row21 : Floor → ℕ → Type 0
Row21 f v = (is_finite (sum_x f v ⊘ weight_of f v) ≡ false) ⊎ (is_finite (sum_y f v ⊘ weight_of f v) ≡ false)

-- ---- row 22: "mean size of an edge not finite", of edge e by number

abbrev pub lower_of : Floor → ℕ → ℕ
lower_of f e = get_or (lowers_of f) e 0

abbrev pub upper_of : Floor → ℕ → ℕ
upper_of f e = get_or (uppers_of f) e 0

abbrev pub Row22 : Floor → ℕ → Type 0
Row22 f e = is_finite (HALF ⊗ (value_at f.sizes (lower_of f e) ⊕ value_at f.sizes (upper_of f e))) ≡ false

-- ---- in table order, each at the lowest index; "rows 20 and 21 are tested point by point"

abbrev pub NoneBefore : (ℕ → Type 0) → ℕ → Type 0
NoneBefore P n = (i : ℕ) → i < n → ¬ P i

abbrev pub NoTriangle : Floor → Type 0
NoTriangle f = NoneBefore (Row19 f) (triangle_count f)

abbrev pub NoPointBefore : Floor → ℕ → Type 0
NoPointBefore f v = NoneBefore (Row20 f) v × NoneBefore (Row21 f) v

-- why a floor is refused before its matrices are made
pub data RefusedFloor (f : Floor) (x : Refusal) : Type 0 where
  by-19 : (t : ℕ) → t < triangle_count f → Row19 f t → NoneBefore (Row19 f) t → x ≡ row_at 19 t → RefusedFloor f x
  by-20 : NoTriangle f → (v : ℕ) → v < point_count f → Row20 f v → NoPointBefore f v → x ≡ row_at 20 v → RefusedFloor f x
  by-21 : NoTriangle f → (v : ℕ) → v < point_count f → ¬ Row20 f v → Row21 f v → NoPointBefore f v → x ≡ row_at 21 v → RefusedFloor f x
  by-22 : NoTriangle f → NoPointBefore f (point_count f) → (e : ℕ) → e < length (edges_of f) → Row22 f e → NoneBefore (Row22 f) e → x ≡ between (lower_of f e) (upper_of f e) → RefusedFloor f x

-- none of these rows holds
pub record AcceptedFloor (f : Floor) : Type 0 where
  pub no-19 : NoTriangle f
  pub no-20-or-21 : NoPointBefore f (point_count f)
  pub no-22 : NoneBefore (Row22 f) (length (edges_of f))
