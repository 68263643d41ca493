-- A floor as a pass reads it: x, y and the size of each point, and the triangles as given. It has no z, so that no pass depends on one. Definitions only.
use Rattle.std.specs.Prelude.{ℕ, List, length, get_or, Float}
use Rattle.std.specs.Float.{nan}
use Rattle.mesh.specs.Mesh.{Tri, tri}

pub record Floor : Type 0 where
  pub xs : List Float
  pub ys : List Float
  pub sizes : List Float
  pub triangles : List Tri

-- how many points it has
abbrev pub point_count : Floor → ℕ
point_count f = length f.xs

abbrev pub triangle_count : Floor → ℕ
triangle_count f = length f.triangles

-- a list's value at point v, and its triangle i
abbrev pub value_at : List Float → ℕ → Float
value_at xs v = get_or xs v nan

abbrev pub triangle_at : List Tri → ℕ → Tri
triangle_at ts i = get_or ts i (tri 0 0 0)
