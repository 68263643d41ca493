-- The first part of a pass, over lists: the corners of each triangle counter-clockwise and its area (row 19), the size gradient at each point (rows 20
-- and 21), the edges in the order first met, and the transport along each (row 22). Lines 1236 to 1291 of the Rust's solve_mesh. Definitions only.
use Rattle.std.specs.Prelude.{ℕ, cond, List, [], map, ltb, length, get_or, Float, Result, Ok, Err}
use Rattle.float.specs.Double.{◌⊘◌}
use Rattle.complex.specs.declared.Complex.{Complex}
use Rattle.linear_cells.specs.Region.{tab}
use Rattle.mesh.specs.Mesh.{Tri, Side, sides_after}
use Rattle.edges.specs.Sides.{lower, upper}
use Rattle.floor.specs.Floor.{Floor, point_count, triangle_count, value_at, triangle_at}
use Rattle.geometry.specs.Triangle.{number, place}
use Rattle.pass_geometries.specs.Geometries.{geometry_on, corners_of, area_of, first_degenerate, Geometry}
use Rattle.pass_gradients.specs.Gradients.{sum_to, weighed_x, weighed_y, check_means}
use Rattle.pass_transports.specs.Transports as transports
use Rattle.refusals.specs.declared.Refusal.{Refusal}
use Rattle.refusals.specs.Refusal.{row_at, Verdict}
use Rattle.pass_transports.specs.Transports.{Answer}

-- ---- the triangles, lines 1245 to 1264

unfoldable pub geometry_at : Floor → ℕ → Geometry
geometry_at f i = geometry_on (value_at f.xs) (value_at f.ys) (triangle_at f.triangles i) i

-- row 19: the lowest degenerate triangle, or how many there are
unfoldable pub degenerate_of : Floor → ℕ
degenerate_of f = first_degenerate (value_at f.xs) (value_at f.ys) (triangle_at f.triangles) (triangle_count f)

-- the corners of each triangle, counter-clockwise
unfoldable pub wound_of : Floor → List Tri
wound_of f = tab (λ i. corners_of (geometry_at f i)) (triangle_count f)

unfoldable pub areas_of : Floor → List Float
areas_of f = tab (λ i. area_of (geometry_at f i)) (triangle_count f)

-- ---- the size gradients, lines 1247 to 1254 and 1266 to 1283

-- the Rust's `gradient_sum` and `gradient_weight` at a point
unfoldable pub sum_x : Floor → ℕ → Float
sum_x f v = sum_to (triangle_at (wound_of f)) (weighed_x (value_at f.xs) (value_at f.ys) (value_at f.sizes) (triangle_at (wound_of f)) (value_at (areas_of f))) v (triangle_count f)

unfoldable pub sum_y : Floor → ℕ → Float
sum_y f v = sum_to (triangle_at (wound_of f)) (weighed_y (value_at f.xs) (value_at f.ys) (value_at f.sizes) (triangle_at (wound_of f)) (value_at (areas_of f))) v (triangle_count f)

unfoldable pub weight_of : Floor → ℕ → Float
weight_of f v = sum_to (triangle_at (wound_of f)) (value_at (areas_of f)) v (triangle_count f)

-- rows 20 and 21, point by point
unfoldable pub means_of : Floor → Verdict
means_of f = check_means (sum_x f) (sum_y f) (weight_of f) (point_count f)

unfoldable pub gradients_x : Floor → List Float
gradients_x f = tab (λ v. sum_x f v ⊘ weight_of f v) (point_count f)

unfoldable pub gradients_y : Floor → List Float
gradients_y f = tab (λ v. sum_y f v ⊘ weight_of f v) (point_count f)

-- ---- the edges, lines 1255 to 1262: in the order first met, the lower end first

unfoldable pub edges_of : Floor → List Side
edges_of f = sides_after [] (wound_of f)

-- the Rust's `edge_a` and `edge_b`
unfoldable pub lowers_of : Floor → List ℕ
lowers_of f = map lower (edges_of f)

unfoldable pub uppers_of : Floor → List ℕ
uppers_of f = map upper (edges_of f)

-- ---- the transports, lines 1285 to 1291

unfoldable pub points_in : Floor → transports.Points
points_in f = transports.points_of f.xs f.ys f.sizes (gradients_x f) (gradients_y f)

unfoldable pub transports_of : Floor → List Complex
transports_of f = transports.coefficients_of (points_in f) (lowers_of f) (uppers_of f)

-- ---- the answer: how many edges there are, or rows 19 to 22 in their order

-- what set-up answers: how many edges the floor has, or a refusal
abbrev pub Setup : Type 0
Setup = Result ℕ Refusal

-- row 19's number and place of a degenerate triangle, and row 22's of an edge
abbrev pub triangle_refusal : Geometry → Refusal
triangle_refusal g = row_at (number g) (get_or (place g) 0 0)

abbrev pub edge_refusal : Answer → Refusal
edge_refusal a = record { number = transports.number a; place = get_or (transports.place a) 0 0; other = get_or (transports.place a) 1 0; pass = 0; reason = 0 }

abbrev pub after_transports : ℕ → Answer → Setup
after_transports m (Ok _) = Ok m
after_transports m (Err e) = Err (edge_refusal (Err e))

abbrev pub after_means : Verdict → Setup → Setup
after_means (Ok _) next = next
after_means (Err x) next = Err (row_at x.number x.place)

unfoldable pub setup_of : Floor → Setup
setup_of f =
    cond (ltb (degenerate_of f) (triangle_count f)) (Err (triangle_refusal (geometry_at f (degenerate_of f))))
    (after_means (means_of f)
    (after_transports (length (edges_of f)) (transports.transports_answer (points_in f) (lowers_of f) (uppers_of f))))
