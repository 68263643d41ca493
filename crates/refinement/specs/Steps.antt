-- What each step of a refinement leaves in its slices: the contracts of the crate's loops. Definitions only.
use Rattle.std.specs.Prelude.{ℕ, ◌+◌, ◌-◌, ◌*◌, ◌≤◌, ◌≡◌, Bool, cond, List, ◌++◌, length, replicate}
use Rattle.mesh.specs.Mesh.{Tri, sides, met_all, cuts, marked, one}
use Rattle.edges.specs.declared.Table.{Table}
use Rattle.edges.specs.Table.{Held, Outside, cuts_in}
use Rattle.refinement.specs.declared.Cut.{Cut}
use Rattle.refinement.specs.Floor.{tris, corners_of}

-- the table t with m sides
abbrev pub having : Table → ℕ → Table
having t m = record { base = t.base; buckets = t.buckets; sides = m }

-- the table t stands in the slice w
abbrev pub HeldIn : Table → List ℕ → Type 0
HeldIn t w = Held t.base t.buckets w t.sides

-- the slice outside it is as it was
abbrev pub OutsideOf : Table → List ℕ → List ℕ → Type 0
OutsideOf t w w' = Outside t.base t.buckets w t.sides w'

-- a triangle was looked at: its sides are met if it is flagged
pub record CutStep (t : Table) (f : Tri → Bool) (x : Tri) (w : List ℕ) (cut : Cut) (w' : List ℕ) (cut' : Cut) : Type 0 where
  pub held : HeldIn (having t cut'.sides) w'
  pub now-cut : cuts_in (having t cut'.sides) w' ≡ cond (f x) (met_all (cuts_in (having t cut.sides) w) (sides x)) (cuts_in (having t cut.sides) w)
  pub counted : cut'.flagged ≡ one (f x) + cut.flagged
  pub more : cut'.sides ≤ cut.sides + 3
  pub most : cut.sides ≤ cut'.sides
  pub outside : OutsideOf (having t cut'.sides) w w'

-- the cut sides of the first i triangles of l stand in the table, and as many triangles are flagged as counted
pub record CutTo (t : Table) (f : Tri → Bool) (l : List ℕ) (i : ℕ) (w w' : List ℕ) (cut : Cut) : Type 0 where
  pub held : HeldIn (having t cut.sides) w'
  pub all-cut : cuts_in (having t cut.sides) w' ≡ cuts f (tris l i)
  pub counted : cut.flagged ≡ length (marked f (tris l i))
  pub few : cut.sides ≤ 3 * i
  pub seldom : cut.flagged ≤ i
  pub outside : OutsideOf (having t cut.sides) w w'

-- the corners of at most four triangles, in list order, in twelve numbers of which the rest are 0
unfoldable pub rows_of : List Tri → List ℕ
rows_of ts = corners_of ts ++ replicate (12 - 3 * length ts) 0

-- the pieces ts of a triangle, as a count and rows of corners
pub record Rows (ts : List Tri) (count : ℕ) (rows : List ℕ) : Type 0 where
  pub many : count ≡ length ts
  pub few : count ≤ 4
  pub corners : rows ≡ rows_of ts
