-- The size gradient at each point of a pass, the mean of its triangles' gradients weighed by their areas: the first two loops of the Rust's solve_mesh,
-- as far as they make `gradient`. Rows 20 and 21. Definitions only.
-- Triangle t has the corners ts t, counter-clockwise, and the area A t; point v has the coordinates X v and Y v and the size S v.
use Rattle.std.specs.Prelude.{ℕ, zero, suc, Bool, cond, not, ◌||◌, eqb, ltb, Float, Ok, Err}
use Rattle.float.specs.Double.{lit, is_finite, not_positive, ◌⊕◌, ◌⊗◌, ◌⊘◌}
use Rattle.plane.specs.declared.Pair.{Pair}
use Rattle.mesh.specs.Mesh.{Tri, tri}
use Rattle.refusals.specs.Refusal.{row_at, Verdict}
use Rattle.floor.specs.Checks.{lowest}
use Rattle.geometry.specs.Triangle.{gradient, at}

-- the gradient of the sizes over a triangle of the area a
abbrev pub gradient_on : (ℕ → Float) → (ℕ → Float) → (ℕ → Float) → Tri → Float → Pair
gradient_on X Y S (tri i j k) a = gradient (at X Y i) (at X Y j) (at X Y k) (S i) (S j) (S k) a

-- what is added at a point: x, once for each of the triangle's corners that is this point
abbrev pub add_corner : ℕ → ℕ → Float → Float → Float
add_corner v i x sum = cond (eqb v i) (sum ⊕ x) sum

abbrev pub add_tri : ℕ → Tri → Float → Float → Float
add_tri v (tri i j k) x sum = add_corner v k x (add_corner v j x (add_corner v i x sum))

-- the sum at v of what the first t triangles add, in list order
unfoldable pub sum_to : (ℕ → Tri) → (ℕ → Float) → ℕ → ℕ → Float
sum_to ts f v zero = lit 0
sum_to ts f v (suc t) = add_tri v (ts t) (f t) (sum_to ts f v t)

-- the Rust's gradient_sum and gradient_weight: the area times the gradient, and the area
abbrev pub weighed_x : (ℕ → Float) → (ℕ → Float) → (ℕ → Float) → (ℕ → Tri) → (ℕ → Float) → ℕ → Float
weighed_x X Y S ts A t = A t ⊗ (gradient_on X Y S (ts t) (A t)).x

abbrev pub weighed_y : (ℕ → Float) → (ℕ → Float) → (ℕ → Float) → (ℕ → Tri) → (ℕ → Float) → ℕ → Float
weighed_y X Y S ts A t = A t ⊗ (gradient_on X Y S (ts t) (A t)).y

-- ---- the mean at each point, of the sums X and Y and the weights W

-- row 21: "size gradient not finite"
abbrev pub not_finite : Float → Float → Bool
not_finite x y = not (is_finite x) || not (is_finite y)

-- "rows 20 and 21 are tested point by point": the row that refuses a point, or 0. Row 20: "point in no triangle, or the areas of its triangles add to
-- infinity", so that its weight is 0 or not finite
unfoldable pub row_of : Float → Float → Float → ℕ
row_of x y weight = cond (not_positive weight) 20 (cond (not_finite (x ⊘ weight) (y ⊘ weight)) 21 0)

-- such a row as the refusal of point v
abbrev pub point_verdict : ℕ → ℕ → Verdict
point_verdict r v = cond (eqb r 0) (Ok tt) (Err (row_at r v))

abbrev pub row_of_point : (ℕ → Float) → (ℕ → Float) → (ℕ → Float) → ℕ → ℕ
row_of_point X Y W v = row_of (X v) (Y v) (W v)

-- the lowest point of n that is refused, or n
unfoldable pub first_refused : (ℕ → Float) → (ℕ → Float) → (ℕ → Float) → ℕ → ℕ
first_refused X Y W n = lowest (λ v. not (eqb (row_of_point X Y W v) 0)) n

unfoldable pub check_means : (ℕ → Float) → (ℕ → Float) → (ℕ → Float) → ℕ → Verdict
check_means X Y W n = cond (ltb (first_refused X Y W n) n) (Err (row_at (row_of_point X Y W (first_refused X Y W n)) (first_refused X Y W n))) (Ok tt)
