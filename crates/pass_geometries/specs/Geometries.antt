-- The geometry of every triangle of a pass, up to the first that is degenerate (row 19): corners put counter-clockwise, and areas. The first loop of
-- the Rust's solve_mesh, as far as it makes `geometries`. Definitions only.
-- A floor's points have the coordinates X v and Y v, and triangle i of its list is ts i.
use Rattle.std.specs.Prelude.{ℕ, Bool, not, eqb, Float, Result, Ok, Err}
use Rattle.std.specs.Float.{nan}
use Rattle.mesh.specs.Mesh.{Tri, tri}
use Rattle.floor.specs.Checks.{lowest}
use Rattle.geometry.specs.declared.TriangleGeometry.{TriangleGeometry}
use Rattle.geometry.specs.declared.Degenerate.{Degenerate}
use Rattle.geometry.specs.Triangle.{geometry, number, at}

-- what one triangle has: its geometry, or row 19
abbrev pub Geometry : Type 0
Geometry = Result TriangleGeometry Degenerate

-- the geometry of triangle t, whose corners are i, j and k
abbrev pub geometry_on : (ℕ → Float) → (ℕ → Float) → Tri → ℕ → Geometry
geometry_on X Y (tri i j k) t = geometry i j k (at X Y i) (at X Y j) (at X Y k) t

-- row 19 refuses it
abbrev pub is_degenerate : Geometry → Bool
is_degenerate g = not (eqb (number g) 0)

-- what is kept of it, the Rust's `geometry.vertices` and `geometry.area`: its corners counter-clockwise, and its area; what stands for a degenerate triangle
-- is never read
abbrev pub corners_of : Geometry → Tri
corners_of (Ok g) = tri g.i g.j g.k
corners_of (Err e) = tri 0 0 0

abbrev pub area_of : Geometry → Float
area_of (Ok g) = g.area
area_of (Err e) = nan

-- row 19: the lowest triangle of t that is degenerate, or t
unfoldable pub first_degenerate : (ℕ → Float) → (ℕ → Float) → (ℕ → Tri) → ℕ → ℕ
first_degenerate X Y ts t = lowest (λ i. is_degenerate (geometry_on X Y (ts i) i)) t
