-- The claim `Refinement`, for all triangles with corners in range and pairwise different, any angles and any threshold from 0 on. Assumes nothing.
use mathlib.Core.Path.{◌≡◌, refl}
use Prim.Native.Nat.{◌*◌}
use mathlib.Core.Bool.{true}
use mathlib.Core.List.{List}
use lib.ListN.{length}
use lib.Ieee.{Float, le}
use Rattle.float.specs.Double.{lit}
use Rattle.mesh.specs.Mesh.{Tri, All, Good, cuts, marked}
use Rattle.mesh.proofs.Theorem.{refines}
use Rattle.mesh.proofs.Good.{refined-good}
use Rattle.mesh.proofs.Points.{placed, floor-keeps-area, points-length, sizes-length}
use Rattle.refinement.specs.Flag.{flagged_tri}
use Rattle.refinement.specs.Floor.{refinement_of}
use Rattle.refinement.specs.Claim.{count_of, Refinement}
use Rattle.refinement.proofs.Flags.{varies, turns, endless-angle, endless-difference, flag_is}

flagged-places : (threshold : Float) (alpha points sizes : List Float) (ts : List Tri) → (refinement_of threshold alpha points sizes ts).flagged ≡ length (marked (flagged_tri threshold alpha) ts)
unfolding refinement_of
flagged-places threshold alpha points sizes ts = refl

module _ (threshold : Float) (alpha points sizes : List Float) (ts : List Tri) (low : le (lit 0) threshold ≡ true) (whole : length points ≡ 3 * count_of points) (sized : length sizes ≡ count_of points) (good : All (Good (count_of points)) ts) where
  pub refinement : Refinement threshold alpha points sizes ts (refinement_of threshold alpha points sizes ts)
  unfolding refinement_of
  refinement =
      let cut = cuts (flagged_tri threshold alpha) ts in
      record {
        varies = varies;
        turns = turns;
        endless-angle = endless-angle;
        endless-difference = endless-difference;
        flag = flag_is threshold alpha low;
        sides = refines (count_of points) (flagged_tri threshold alpha) ts good;
        good = refined-good (count_of points) (flagged_tri threshold alpha) ts good;
        placed = placed (count_of points) points sizes cut whole sized;
        areas = floor-keeps-area (count_of points) points sizes cut whole sized ts good;
        flagged-count = flagged-places threshold alpha points sizes ts;
        point-count = points-length points cut;
        size-count = sizes-length sizes cut;
      }
