-- What holds of the refinement of a floor, as one claim: demand 3's part that is about refinement, to be cited whole. Its words are those of document
-- 01, "Refinement between the passes". Definitions only.
use Rattle.std.specs.Prelude.{ℕ, ◌+◌, ◌*◌, ◌/◌, ◌≡◌, true, false, ◌&&◌, List, length, Float}
use Rattle.std.proofs.Math.Option.{Option}
use Rattle.float.specs.Double.{lit, is_finite, rem_euclid, min_of, FRAC-PI-2, ◌⊖◌}
use Rattle.mesh.specs.Mesh.{Tri, mid, marked, All, Good}
use Rattle.mesh.specs.Claim.{Refines}
use Rattle.mesh.specs.AreaClaim.{Placed, EvenPoints, KeepsArea}
use Rattle.refinement.specs.Flag.{variation, largest, turns_by, flagged_tri, turns_more}
use Rattle.refinement.specs.Floor.{Refined}

-- n points have three numbers each
abbrev pub count_of : List Float → ℕ
count_of points = length points / 3

-- the midpoint of a side, if it is cut
abbrev pub midpoint_of : List Float → Refined → ℕ → ℕ → Option ℕ
midpoint_of points r = mid (count_of points) r.cut

-- points, each with an angle and a size, and the triangles ts are refined to r
pub record Refinement (threshold : Float) (alpha points sizes : List Float) (ts : List Tri) (r : Refined) : Type 0 where
  -- "a triangle's variation is the largest over its sides" of how far the field turns along each:
  pub varies : (a b c : Float) → variation a b c ≡ largest (turns_by a b) (turns_by b c) (turns_by c a)
  -- "d or FRAC_PI_2 − d, the smaller, where d is the angle difference by `rem_euclid` FRAC_PI_2";
  pub turns : (a b : Float) → is_finite (a ⊖ b) ≡ true → turns_by a b ≡ min_of (rem_euclid (a ⊖ b) FRAC-PI-2) (FRAC-PI-2 ⊖ rem_euclid (a ⊖ b) FRAC-PI-2)
  -- "a side with an angle, or a difference of its angles, not finite turns by 0"
  pub endless-angle : (a b : Float) → is_finite a && is_finite b ≡ false → turns_by a b ≡ lit 0
  pub endless-difference : (a b : Float) → is_finite (a ⊖ b) ≡ false → turns_by a b ≡ lit 0
  -- flagged is a triangle on one of whose sides the field turns by more than the threshold, and no other
  pub flag : (t : Tri) → flagged_tri threshold alpha t ≡ turns_more threshold alpha t
  -- which sides are cut, their midpoints, in how many triangles each side lies, and the order of the pieces
  pub sides : Refines (count_of points) (flagged_tri threshold alpha) ts r.triangles r.cut (midpoint_of points r)
  -- the new triangles have corners in range and pairwise different again
  pub good : All (Good (count_of points + length r.cut)) r.triangles
  -- old points and sizes stay, and where the midpoints lie
  pub placed : Placed (count_of points) (midpoint_of points r) points sizes r.points r.sizes
  -- "areas are exact": on even whole coordinates the pieces of each triangle have its area, in x and y and without sign
  pub areas : EvenPoints (count_of points) points → KeepsArea (count_of points) points r.points (midpoint_of points r) ts
  -- the count of flagged triangles is that of the flagged places of the list, and a point and a size are added for each cut side
  pub flagged-count : r.flagged ≡ length (marked (flagged_tri threshold alpha) ts)
  pub point-count : length r.points ≡ length points + 3 * length r.cut
  pub size-count : length r.sizes ≡ length sizes + length r.cut
