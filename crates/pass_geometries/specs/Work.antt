-- Memory of the geometries: what `geometries` leaves in the two work slices, up to the first degenerate triangle, and the room that it requires.
use Rattle.std.specs.Prelude.{ℕ, zero, suc, ◌+◌, ◌*◌, ◌^◌, ◌≤◌, ◌<◌, ◌≡◌, Bool, not, List, [], ◌∷◌, ◌++◌, get_or, Float, Result, Ok, Err}
use Rattle.std.proofs.lemmas.List.Edits.{sets}
use Rattle.std.specs.Float.{nan}
use Rattle.mesh.specs.Mesh.{Tri, tri}
use Rattle.edges.specs.Numbering.{tri_from}
use Rattle.geometry.specs.declared.Degenerate.{Degenerate}
use Rattle.pass_geometries.specs.declared.GeometriesPlan.{GeometriesPlan}
use Rattle.pass_geometries.specs.Geometries.{geometry_on, is_degenerate, first_degenerate, Geometry}

-- what one triangle adds to the slices: its corners counter-clockwise, and its area; nothing where it is degenerate
abbrev pub corners_on : Geometry → List ℕ
corners_on (Ok g) = g.i ∷ g.j ∷ g.k ∷ []
corners_on (Err e) = []

abbrev pub area_on : Geometry → List Float
area_on (Ok g) = g.area ∷ []
area_on (Err e) = []

-- f 0, f 1, .., f (i - 1), one behind the other
unfoldable pub joined : {A : Type 0} → (ℕ → List A) → ℕ → List A
joined f zero = []
joined f (suc i) = joined f i ++ f i

-- the corners and the areas of the first i triangles
unfoldable pub wound_up_to : (ℕ → Float) → (ℕ → Float) → (ℕ → Tri) → ℕ → List ℕ
wound_up_to X Y ts i = joined (λ j. corners_on (geometry_on X Y (ts j) j)) i

unfoldable pub areas_up_to : (ℕ → Float) → (ℕ → Float) → (ℕ → Tri) → ℕ → List Float
areas_up_to X Y ts i = joined (λ j. area_on (geometry_on X Y (ts j) j)) i

-- the coordinates of point v where they stand from b on
abbrev pub coords_from : List Float → ℕ → ℕ → Float
coords_from w b v = get_or w (b + v) nan

abbrev pub xs_in : GeometriesPlan → List Float → ℕ → Float
xs_in p w = coords_from w p.x

abbrev pub ys_in : GeometriesPlan → List Float → ℕ → Float
ys_in p w = coords_from w p.y

-- the geometry of triangle i as given
abbrev pub geometry_in : GeometriesPlan → List Float → List ℕ → ℕ → Geometry
geometry_in p w u i = geometry_on (xs_in p w) (ys_in p w) (tri_from p.given u i) i

-- a triangle's corners are among n points
abbrev pub Cornered : ℕ → Tri → Type 0
Cornered n (tri a b c) = (a < n) × ((b < n) × (c < n))

-- there is room: the coordinates, then the areas; the corners as given, then those put counter-clockwise
pub record GeometriesRoom (p : GeometriesPlan) (reals words : ℕ) : Type 0 where
  pub x-in : p.x + p.points ≤ p.areas
  pub y-in : p.y + p.points ≤ p.areas
  pub areas-in : p.areas + p.triangles ≤ reals
  pub given-in : p.given + 3 * p.triangles ≤ p.wound
  pub wound-in : p.wound + 3 * p.triangles ≤ words
  pub narrow : p.points ≤ 2 ^ 32

-- triangle i was looked at: b says whether it has a geometry, which is then kept
pub record Looked (p : GeometriesPlan) (i : ℕ) (w : List Float) (u : List ℕ) (w' : List Float) (u' : List ℕ) (b : Bool) : Type 0 where
  pub sound : b ≡ not (is_degenerate (geometry_in p w u i))
  pub area : w' ≡ sets w (p.areas + i) (area_on (geometry_in p w u i))
  pub corners : u' ≡ sets u (p.wound + 3 * i) (corners_on (geometry_in p w u i))

-- how many triangles were looked at, of n, before the degenerate one of the answer
abbrev pub reached : ℕ → Result (Unit {0}) Degenerate → ℕ
reached n (Ok _) = n
reached n (Err e) = e.triangle

-- the triangles before the first degenerate one, r, are kept
pub record Kept (p : GeometriesPlan) (w : List Float) (u : List ℕ) (w' : List Float) (u' : List ℕ) (r : ℕ) : Type 0 where
  pub first : r ≡ first_degenerate (xs_in p w) (ys_in p w) (tri_from p.given u) p.triangles
  pub areas : w' ≡ sets w p.areas (areas_up_to (xs_in p w) (ys_in p w) (tri_from p.given u) r)
  pub wound : u' ≡ sets u p.wound (wound_up_to (xs_in p w) (ys_in p w) (tri_from p.given u) r)
