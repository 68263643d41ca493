-- Triangles stored in a slice of corners: what each step of a refined floor leaves. Definitions only.
use Rattle.std.specs.Prelude.{ℕ, ◌+◌, ◌≡◌, List, length}
use Rattle.std.proofs.lemmas.List.Edits.{sets}
use Rattle.mesh.specs.Mesh.{Tri}
use Rattle.refinement.specs.Floor.{corners_of}

-- the corners of the triangles ts stand in `out` from `at` on, and all else is as it was; with k before them there are k'
pub record Stored (ts : List Tri) (out : List ℕ) (at k : ℕ) (out' : List ℕ) (k' : ℕ) : Type 0 where
  pub stands : out' ≡ sets out at (corners_of ts)
  pub counted : k' ≡ k + length ts
