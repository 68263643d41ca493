-- Definitions for the steps below `answer`: the bytes of a call of refinement by what its check found, and the slices that it is lent.
use Rattle.std.specs.Prelude.{ℕ, ◌/◌, ◌≤◌, ◌≡◌, List, length, Float, Ok, Err}
use Rattle.refinement.specs.Floor.{Refined, refinement_of, tris_of}
use Rattle.refine_call.specs.Call.{check_call}
use Rattle.text_answer.specs.Lines.{refused_line}
use Rattle.text_answer.specs.Printed.{written, longest}
use Rattle.refusals.specs.Refusal.{Verdict}

abbrev pub bytes_of : Verdict → Refined → List ℕ
bytes_of (Ok _) r = written r
bytes_of (Err x) r = refused_line

-- of points p, corners k, sizes z, angles α and the threshold x, with result slices of full size
abbrev pub bytes_from : List Float → List ℕ → List Float → List Float → Float → List ℕ
bytes_from p k z α x = bytes_of (check_call p k z (length α) x 3072 1024 3072 2048) (refinement_of x α p z (tris_of k))

-- at most 256 triangles, four result slices that hold any refinement of 256 points and 256 triangles, and room for the longest answer
pub record Sized (corners op os ot oe out : ℕ) : Type 0 where
  pub few : corners / 3 ≤ 256
  pub in-points : op ≡ 3072
  pub in-sizes : os ≡ 1024
  pub in-triangles : ot ≡ 3072
  pub in-ends : oe ≡ 2048
  pub roomy : longest ≤ out
