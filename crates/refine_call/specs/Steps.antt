-- What the steps of an accepted refinement call ask for and leave. Definitions only.
use Rattle.std.specs.Prelude.{ℕ, ◌+◌, ◌*◌, ◌/◌, ◌^◌, ◌≤◌, ◌<◌, ◌≡◌, ◌≢◌, List, length, get_or, Float}
use Rattle.std.proofs.lemmas.List.Edits.{sets}
use Rattle.floor.specs.Checks.{MOST-POINTS, MOST-TRIANGLES}
use Rattle.mesh.specs.Mesh.{Side, mid, refined}
use Rattle.mesh.specs.Points.{more_points, more_sizes}
use Rattle.edges.specs.TwoSlices.{sides_at, HeldInTwo}
use Rattle.refinement.specs.declared.Cut.{Cut}
use Rattle.refinement.specs.Floor.{Refined, tris_of, corners_of, ends_of, over}
use Rattle.refinement.specs.Stored.{Stored}
use Rattle.refine_call.specs.Marks.{marked_by, CutsAt}
use Rattle.refine_call.specs.declared.Counts.{Counts}
use Rattle.refine_call.specs.Call.{counts_of}

-- the sides of the flagged triangles among those of l are cut, and these triangles have their marks in w, behind which the table stands; its ends are e. If none is
-- flagged there is no table
pub record Marks (n : ℕ) (cut : Cut) (l e w : List ℕ) : Type 0 where
  pub whole : length l ≡ 3 * (length l / 3)
  pub room : 12 * (length l / 3) ≤ length w
  pub few : (n + cut.sides < 2 ^ 32) × (4 * (length l / 3) < 2 ^ 32)
  pub no_sides : cut.flagged ≡ 0 → cut.sides ≡ 0
  pub held : cut.flagged ≢ 0 → HeldInTwo (3 * (length l / 3)) (3 * cut.flagged) e w cut.sides
  pub as_many : cut.flagged ≢ 0 → length (marked_by w l (length l / 3)) ≡ cut.flagged
  pub cut-marks : cut.flagged ≢ 0 → (j : ℕ) → j < length l / 3 → get_or w (3 * j) 0 ≢ 0 → CutsAt n (sides_at e cut.sides) w l j

-- the pieces of all triangles stand at the front, at least as many as marks and table have places
pub record Pieces (n : ℕ) (cut : Cut) (l e w w' : List ℕ) (k : ℕ) : Type 0 where
  pub stored : Stored (refined (mid n (sides_at e cut.sides)) (tris_of l)) w 0 0 w' k
  pub least : length l / 3 + 3 * cut.flagged ≤ k

-- the four slices of an accepted call
pub record Filled (r : Refined) (new_points new_sizes : List Float) (new_triangles cut_ends : List ℕ) (a : Counts) (new_points' new_sizes' : List Float) (new_triangles' cut_ends' : List ℕ) : Type 0 where
  pub counts : a ≡ counts_of r
  pub points : new_points' ≡ over r.points new_points
  pub sizes : new_sizes' ≡ over r.sizes new_sizes
  pub triangles : new_triangles' ≡ over (corners_of r.triangles) new_triangles
  pub ends : cut_ends' ≡ over (ends_of r.cut) cut_ends

-- there is room: what rows 1, 5 and 18 leave
pub record ResultRoom (points corners sizes new_points new_sizes new_triangles cut_ends : ℕ) : Type 0 where
  pub whole : points ≡ 3 * (points / 3)
  pub whole-corners : corners ≡ 3 * (corners / 3)
  pub few-points : points / 3 ≤ MOST-POINTS
  pub few-triangles : corners / 3 ≤ MOST-TRIANGLES
  pub sized : sizes ≡ points / 3
  pub in-points : 3 * (points / 3 + 3 * (corners / 3)) ≤ new_points
  pub in-sizes : points / 3 + 3 * (corners / 3) ≤ new_sizes
  pub in-triangles : 12 * (corners / 3) ≤ new_triangles
  pub in-ends : 8 * (corners / 3) ≤ cut_ends

-- there is room for the points and the sizes of a floor with `cut` cut sides, whose ends are given
pub record FloorRoom (points sizes ends cut new_points new_sizes : ℕ) : Type 0 where
  pub ends-in : 2 * cut ≤ ends
  pub in-points : points + 3 * cut ≤ new_points
  pub in-sizes : sizes + cut ≤ new_sizes

-- the given points and sizes, and behind them those of the midpoints of the cut sides s, at the front of two slices
pub record PutsFloor (points sizes : List Float) (s : List Side) (new_points new_sizes new_points' new_sizes' : List Float) : Type 0 where
  pub points-put : new_points' ≡ sets new_points 0 (more_points points s)
  pub sizes-put : new_sizes' ≡ sets new_sizes 0 (more_sizes sizes s)
