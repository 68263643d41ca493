-- The ends of a side, and how often a list of triangles lists one. Definitions only.
use Rattle.std.specs.Prelude.{ℕ, ◌+◌, List, [], ◌∷◌, ◌++◌}
use Rattle.mesh.specs.Mesh.{Side, side, Tri, same, sides, one}

-- a side's lower and its upper end
abbrev pub lower : Side → ℕ
lower (side a b) = a

abbrev pub upper : Side → ℕ
upper (side a b) = b

-- how often a side is listed: the Rust's count of a side, in the HashMap of boundary_targets
unfoldable pub times : Side → List Side → ℕ
times s [] = 0
times s (t ∷ ts) = one (same s t) + times s ts

-- the three sides of each triangle, one after the other
unfoldable pub listed : List Tri → List Side
listed [] = []
listed (t ∷ ts) = sides t ++ listed ts
