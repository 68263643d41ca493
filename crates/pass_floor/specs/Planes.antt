-- The planes of a floor refined at its cut sides, as lists: x or y of each point, the old points and then the midpoints. Definitions only.
use Rattle.std.specs.Prelude.{ℕ, ◌+◌, ◌*◌, ◌/◌, ◌≤◌, ◌<◌, ◌≡◌, List, ◌++◌, map, length, get_or, Float}
use Rattle.std.specs.Float.{nan}
use Rattle.linear_cells.specs.Region.{tab}
use Rattle.mesh.specs.Mesh.{Side, side}
use Rattle.mesh.specs.Area.{halfway}
use Rattle.mesh.specs.Points.{more_points}
use Rattle.edges.specs.declared.Table.{Table}
use Rattle.edges.specs.Table.{lo_of, hi_of, end_of}
use Rattle.complex.specs.Guidance.{mid_angle}
use Rattle.pass_floor.specs.declared.inputs.Mean.{Mean}
use Rattle.pass_floor.specs.declared.inputs.Mean.TheVariants.{Half, Angle}

-- x of the midpoint of cut side j where k is 0, and y where it is 1
unfoldable pub midway_at : List Float → Table → List ℕ → ℕ → ℕ → Float
midway_at points t u k j = halfway (get_or points (3 * lo_of t.base t.buckets u j + k) nan) (get_or points (3 * hi_of t.base t.buckets u j + k) nan)

-- the same of point v of the refined floor
unfoldable pub coordinate_at : List Float → List Side → ℕ → ℕ → Float
coordinate_at points cuts k v = get_or (more_points points cuts) (3 * v + k) nan

unfoldable pub coordinate_plane : List Float → List Side → ℕ → List Float
coordinate_plane points cuts k = tab (coordinate_at points cuts k) (length points / 3 + length cuts)

-- ---- one value for each point

unfoldable pub mean_of : Mean → Float → Float → Float
mean_of Half a b = halfway a b
mean_of Angle a b = mid_angle a b

abbrev pub mean_on : Mean → List Float → Side → Float
mean_on kind values (side a b) = mean_of kind (get_or values a nan) (get_or values b nan)

abbrev pub cut_at : Table → List ℕ → ℕ → Side
cut_at t u j = side (lo_of t.base t.buckets u j) (hi_of t.base t.buckets u j)

-- the values at the old points, and then those at the midpoints: mesh's `more_sizes` of halves, and refinement's `more_angles` of angles
unfoldable pub value_plane : Mean → List Float → List Side → List Float
value_plane kind values cuts = values ++ map (mean_on kind values) cuts

-- ---- lengths and offsets

pub record PointsIn (points : ℕ) (t : Table) (k numbers : ℕ) : Type 0 where
  pub whole : points ≡ 3 * (points / 3)
  pub x-or-y : k < 2
  pub table-in : end_of t ≤ numbers

pub record CoordinateRoom (points : ℕ) (t : Table) (k numbers at work : ℕ) : Type 0 where
  pub points-in : PointsIn points t k numbers
  pub plane-in : at + (points / 3 + t.sides) ≤ work

pub record ValueRoom (values : ℕ) (t : Table) (numbers at work : ℕ) : Type 0 where
  pub table-in : end_of t ≤ numbers
  pub values-in : at + (values + t.sides) ≤ work
