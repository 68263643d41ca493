-- What holds of the points, sizes and areas of a refined floor: demand 3's part that is about positions. Points and sizes as given are `pts` and `sizes`,
-- those of the refined floor pts' and sizes'; m gives the midpoint of a side that is cut, and n points are old. Definitions only.
use Rattle.std.specs.Prelude.{ℕ, ◌<◌, ◌≡◌, List, T, ℤ, Float}
use Rattle.std.proofs.Math.Option.{Option, some}
use Rattle.float.specs.Double.{lit}
use Rattle.mesh.specs.Mesh.{Tri, total, pieces, refined, All}
use Rattle.mesh.specs.Area.{even_whole, is_whole, coord, halfway, twice, Middle, SharedOf}
use Rattle.mesh.specs.Points.{x_of, y_of, z_of, size_of}

-- old points keep their place and old sizes stay; a midpoint lies halfway between the ends of its side, "z is 0, size is half the sum"
pub record Placed (n : ℕ) (m : ℕ → ℕ → Option ℕ) (pts sizes pts' sizes' : List Float) : Type 0 where
  pub old-x : (v : ℕ) → v < n → x_of pts' v ≡ x_of pts v
  pub old-y : (v : ℕ) → v < n → y_of pts' v ≡ y_of pts v
  pub old-z : (v : ℕ) → v < n → z_of pts' v ≡ z_of pts v
  pub old-size : (v : ℕ) → v < n → size_of sizes' v ≡ size_of sizes v
  pub mid-x : (u v p : ℕ) → m u v ≡ some p → x_of pts' p ≡ halfway (x_of pts u) (x_of pts v)
  pub mid-y : (u v p : ℕ) → m u v ≡ some p → y_of pts' p ≡ halfway (y_of pts u) (y_of pts v)
  pub mid-z : (u v p : ℕ) → m u v ≡ some p → z_of pts' p ≡ lit 0
  pub mid-size : (u v p : ℕ) → m u v ≡ some p → size_of sizes' p ≡ halfway (size_of sizes u) (size_of sizes v)

-- "even whole coordinates up to 1,048,576 in size", of n points
pub record EvenPoints (n : ℕ) (pts : List Float) : Type 0 where
  pub even-x : (v : ℕ) → v < n → T (even_whole (x_of pts v))
  pub even-y : (v : ℕ) → v < n → T (even_whole (y_of pts v))

-- points on whole coordinates, and twice a triangle's area "in x and y and without sign", exactly
abbrev pub whole_x : List Float → ℕ → ℤ
whole_x pts v = coord (x_of pts v)

abbrev pub whole_y : List Float → ℕ → ℤ
whole_y pts v = coord (y_of pts v)

abbrev pub twice_area : List Float → Tri → ℕ
twice_area pts t = twice (whole_x pts) (whole_y pts) t

-- of the triangles ts on the points as given, and their pieces on those of the refined floor
pub record KeepsArea (n : ℕ) (pts pts' : List Float) (m : ℕ → ℕ → Option ℕ) (ts : List Tri) : Type 0 where
  -- a midpoint's coordinates are whole numbers, exactly halfway between those of the ends as given
  pub exact : (u v p : ℕ) → u < n → v < n → m u v ≡ some p → T (is_whole (x_of pts' p)) × T (is_whole (y_of pts' p)) × Middle (whole_x pts) (whole_y pts) (whole_x pts') (whole_y pts') p u v
  -- "the areas of each triangle's pieces .. add to its own", and so the floor keeps its area
  pub each : All (λ t. total (twice_area pts') (pieces m t) ≡ twice_area pts t) ts
  pub all : total (twice_area pts') (refined m ts) ≡ total (twice_area pts) ts
  -- each piece has its share of the triangle's signed area
  pub wound : All (SharedOf (whole_x pts) (whole_y pts) (whole_x pts') (whole_y pts') m) ts
