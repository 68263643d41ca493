-- What holds of every accepted refinement call, as one claim. Row 19 is none of its rows, so a triangle may have a corner twice: the cut sides and the counts are
-- claimed all the same, and the rest, with the areas, where no triangle does. Definitions only.
use Rattle.std.specs.Prelude.{◌+◌, ◌≡◌, List, length, Float}
use Rattle.mesh.specs.Mesh.{Tri, marked, Good, All}
use Rattle.mesh.specs.Claim.{CutSides}
use Rattle.refinement.specs.Flag.{flagged_tri, turns_more}
use Rattle.refinement.specs.Floor.{Refined}
use Rattle.refinement.specs.Claim.{count_of, Refinement}
use Rattle.refine_call.specs.declared.Counts.{Counts}

-- the triangles ts are refined to r, and the call tells these counts
pub record AcceptedCall (threshold : Float) (angles pts sizes : List Float) (ts : List Tri) (r : Refined) (counts : Counts) : Type 0 where
  -- flagged is a triangle on one of whose sides the field turns by more than the threshold, and no other
  pub flag : (t : Tri) → flagged_tri threshold angles t ≡ turns_more threshold angles t
  -- the cut sides, whose ends the call hands back, are the sides of the flagged triangles, each once, in the order first met
  pub cut-sides : CutSides (count_of pts) (flagged_tri threshold angles) ts r.cut
  -- the counts "are of flagged places in the list and of cut sides, each side once"; each cut side has a new point
  pub flagged : counts.flagged ≡ length (marked (flagged_tri threshold angles) ts)
  pub cut : counts.cut ≡ length r.cut
  pub points : counts.points ≡ count_of pts + counts.cut
  pub triangles : counts.triangles ≡ length r.triangles
  -- where each triangle has three different corners, the whole claim
  pub whole : All (Good (count_of pts)) ts → Refinement threshold angles pts sizes ts r
