-- Memory of the gradients: what `gather` and `divide` leave in a work slice, and the room that they require.
use Rattle.std.specs.Prelude.{ℕ, ◌+◌, ◌*◌, ◌≤◌, ◌<◌, ◌≡◌, ◌⊎◌, cond, List, eqb, length, get_or, set, Float}
use Rattle.std.specs.Float.{nan}
use Rattle.float.specs.Double.{◌⊕◌, ◌⊘◌}
use Rattle.plane.specs.declared.Pair.{Pair}
use Rattle.mesh.specs.Mesh.{Tri, tri}
use Rattle.edges.specs.Numbering.{tri_from}
use Rattle.pass_geometries.specs.Work.{coords_from}
use Rattle.pass_gradients.specs.declared.GradientsPlan.{GradientsPlan}
use Rattle.pass_gradients.specs.Gradients.{gradient_on, sum_to, weighed_x, weighed_y, row_of_point, first_refused, check_means, point_verdict}
use Rattle.refusals.specs.Refusal.{Verdict}

-- there is room: coordinates, sizes and areas before the sums, three for each point; corners
pub record GradientsRoom (p : GradientsPlan) (reals words : ℕ) : Type 0 where
  pub x-in : p.x + p.points ≤ p.gradients
  pub y-in : p.y + p.points ≤ p.gradients
  pub sizes-in : p.sizes + p.points ≤ p.gradients
  pub areas-in : p.areas + p.triangles ≤ p.gradients
  pub sums-in : p.gradients + 3 * p.points ≤ reals
  pub wound-in : p.wound + 3 * p.triangles ≤ words

-- the gradient over a triangle, and what triangle t adds at its corners, of what stands there
abbrev pub gradient_in : GradientsPlan → List Float → Tri → Float → Pair
gradient_in p w s a = gradient_on (coords_from w p.x) (coords_from w p.y) (coords_from w p.sizes) s a

abbrev pub part_x : GradientsPlan → List Float → List ℕ → ℕ → Float
part_x p w u = weighed_x (coords_from w p.x) (coords_from w p.y) (coords_from w p.sizes) (tri_from p.wound u) (coords_from w p.areas)

abbrev pub part_y : GradientsPlan → List Float → List ℕ → ℕ → Float
part_y p w u = weighed_y (coords_from w p.x) (coords_from w p.y) (coords_from w p.sizes) (tri_from p.wound u) (coords_from w p.areas)

-- the sums and the weights of n points, which stand from g on: n first parts, then n second parts, then n weights
abbrev pub sums_x : ℕ → ℕ → List Float → ℕ → Float
sums_x g n w = coords_from w g

abbrev pub sums_y : ℕ → ℕ → List Float → ℕ → Float
sums_y g n w = coords_from w (g + n)

abbrev pub weights : ℕ → ℕ → List Float → ℕ → Float
weights g n w = coords_from w (g + 2 * n)

-- the flat list with x, y and a added to the sums of point v, and of a triangle's corners
unfoldable pub add_at : List Float → ℕ → Float → List Float
add_at w j x = set w j (get_or w j nan ⊕ x)

unfoldable pub add_three : ℕ → ℕ → ℕ → Float → Float → Float → List Float → List Float
add_three g n v x y a w = add_at (add_at (add_at w (g + v) x) (g + n + v) y) (g + 2 * n + v) a

abbrev pub add_triangle : ℕ → ℕ → Tri → Float → Float → Float → List Float → List Float
add_triangle g n (tri i j k) x y a w = add_three g n k x y a (add_three g n j x y a (add_three g n i x y a w))

-- triangle t was added
abbrev pub GatheredTriangle : GradientsPlan → ℕ → List ℕ → List Float → List Float → Type 0
GatheredTriangle p t u w w' = w' ≡ add_triangle p.gradients p.points (tri_from p.wound u t) (part_x p w u t) (part_y p w u t) (coords_from w p.areas t) w

-- the sums of the first t triangles stand there; all else is as it was
pub record GatheredTo (p : GradientsPlan) (t : ℕ) (u : List ℕ) (w w' : List Float) : Type 0 where
  pub same_length : length w' ≡ length w
  pub sums-x : (v : ℕ) → v < p.points → sums_x p.gradients p.points w' v ≡ sum_to (tri_from p.wound u) (part_x p w u) v t
  pub sums-y : (v : ℕ) → v < p.points → sums_y p.gradients p.points w' v ≡ sum_to (tri_from p.wound u) (part_y p w u) v t
  pub all-weights : (v : ℕ) → v < p.points → weights p.gradients p.points w' v ≡ sum_to (tri_from p.wound u) (coords_from w p.areas) v t
  pub elsewhere : (j : ℕ) → (j < p.gradients) ⊎ (p.gradients + 3 * p.points ≤ j) → get_or w' j nan ≡ get_or w j nan

-- the flat list with point v's sums divided by its weight
unfoldable pub divide_at : ℕ → ℕ → ℕ → List Float → List Float
divide_at g n v w = set (set w (g + v) (sums_x g n w v ⊘ weights g n w v)) (g + n + v) (sums_y g n w v ⊘ weights g n w v)

-- the sums of the first i points are divided by their weights; all else is as it was
pub record DividedTo (g n i : ℕ) (w w' : List Float) : Type 0 where
  pub same_length : length w' ≡ length w
  pub mean-x : (v : ℕ) → v < i → sums_x g n w' v ≡ sums_x g n w v ⊘ weights g n w v
  pub mean-y : (v : ℕ) → v < i → sums_y g n w' v ≡ sums_y g n w v ⊘ weights g n w v
  pub elsewhere : (j : ℕ) → (j < g) ⊎ ((g + i ≤ j) × (j < g + n)) ⊎ (g + n + i ≤ j) → get_or w' j nan ≡ get_or w j nan

-- point v was looked at: the row that refuses it, or its sums are divided
pub record DividedPoint (g n v : ℕ) (w w' : List Float) (r : Verdict) : Type 0 where
  pub answer : r ≡ point_verdict (row_of_point (sums_x g n w) (sums_y g n w) (weights g n w) v) v
  pub work : w' ≡ cond (eqb (row_of_point (sums_x g n w) (sums_y g n w) (weights g n w) v) 0) (divide_at g n v w) w

-- the answer, and the points before the first that is refused
pub record Divided (g n : ℕ) (w w' : List Float) (r : Verdict) : Type 0 where
  pub answer : r ≡ check_means (sums_x g n w) (sums_y g n w) (weights g n w) n
  pub means : DividedTo g n (first_refused (sums_x g n w) (sums_y g n w) (weights g n w) n) w w'
