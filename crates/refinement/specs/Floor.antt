-- The refinement of a floor, as one definition: points, sizes, triangles, cut sides and the count of flagged triangles, all that refine_once returns.
-- Beside it, triangles and sides as they lie in a list of numbers. Definitions only.
use Rattle.std.specs.Prelude.{ℕ, zero, suc, ◌+◌, ◌*◌, ◌/◌, List, [], ◌∷◌, ◌++◌, length, get_or, drop, Float}
use Rattle.mesh.specs.Mesh.{Tri, tri, Side, side, cuts, marked, refine}
use Rattle.mesh.specs.Points.{more_points, more_sizes}
use Rattle.refinement.specs.Flag.{flagged_tri}

abbrev pub tri_at : List ℕ → ℕ → Tri
tri_at l i = tri (get_or l (3 * i) 0) (get_or l (3 * i + 1) 0) (get_or l (3 * i + 2) 0)

-- the first i triangles of a list of corners, three to a triangle
unfoldable pub tris : List ℕ → ℕ → List Tri
tris l zero = []
tris l (suc i) = tris l i ++ (tri_at l i ∷ [])

-- all of them
abbrev pub tris_of : List ℕ → List Tri
tris_of l = tris l (length l / 3)

-- the other way: the corners of a list of triangles, and the ends of a list of sides, the lower first
unfoldable pub corners_of : List Tri → List ℕ
corners_of [] = []
corners_of (tri a b c ∷ ts) = a ∷ b ∷ c ∷ corners_of ts

unfoldable pub ends_of : List Side → List ℕ
ends_of [] = []
ends_of (side a b ∷ l) = a ∷ b ∷ ends_of l

-- a slice whose front is filled and whose rest stays
abbrev pub over {ℓ} : {A : Type ℓ} → List A → List A → List A
over new old = new ++ drop (length new) old

pub record Refined : Type 0 where
  pub points : List Float
  pub sizes : List Float
  pub triangles : List Tri
  pub cut : List Side
  pub flagged : ℕ

-- refine_once: n points, three numbers each, with a size and an angle each, and the triangles ts
unfoldable pub refinement_of : Float → List Float → List Float → List Float → List Tri → Refined
refinement_of threshold alpha points sizes ts =
    let f = flagged_tri threshold alpha in
    record {
      points = more_points points (cuts f ts);
      sizes = more_sizes sizes (cuts f ts);
      triangles = refine (length points / 3) f ts;
      cut = cuts f ts;
      flagged = length (marked f ts);
    }
