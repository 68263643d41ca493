-- The claim `AcceptedCall`, of every call that is answered by counts. Assumes nothing.
use Prim.Native.Nat.{ℕ, ◌+◌, ◌*◌, ◌/◌}
use native.Mathlib.Omega.{arith}
use mathlib.Core.Path.{◌≡◌, refl, sym, ap}
use mathlib.Core.Bool.{true, not}
use mathlib.Core.List.{List}
use borrow.Author.Tests.{ltb-false, not-false}
use lib.Dec.{eqb, ltb}
use lib.ListN.{length}
use lib.Ieee.{Float, le, lt}
use Rattle.std.specs.Prelude.{Ok, Err}
use Rattle.float.specs.Double.{lit, is_finite}
use Rattle.mesh.specs.Mesh.{All, cuts}
use Rattle.mesh.specs.Claim.{InRange}
use Rattle.mesh.proofs.Order.{cut-sides}
use Rattle.mesh.proofs.Points.{points-length}
use Rattle.refusals.specs.Refusal.{row, Verdict}
use Rattle.floor.specs.Checks.{lowest, bad_point, bad_size, bad_corner, well_formed, not_finite_or_below_zero, check_floor}
use Rattle.floor.proofs.Lowest.{lowest-before}
use Rattle.floor.proofs.Rows.{or-none, whole-slices}
use Rattle.refinement.specs.Flag.{flagged_tri}
use Rattle.refinement.specs.Floor.{Refined, tris_of, refinement_of}
use Rattle.refinement.proofs.Triangles.{in-range}
use Rattle.refinement.proofs.Flags.{low, flag_is}
use Rattle.refinement.proofs.Claim.{refinement}
use Rattle.refine_call.specs.declared.Counts.{Counts}
use Rattle.refine_call.specs.Call.{check_rest, check_call, counts_of, answer_of}
use Rattle.refine_call.specs.Claim.{AcceptedCall}
use Rattle.refine_call.proofs.Facts.{passed, passed-last, passed-both, sizes-are}

answered : (c : Verdict) (r : Refined) (counts : Counts) → answer_of c r ≡ Ok counts → (c ≡ Ok tt) × (counts_of r ≡ counts)
answered (Ok tt) r counts e = (refl, cc)
answered (Err x) r counts e = let z : ◌≡◌ {A = ℕ} 0 1 = cc in absurd (omega arith)

-- row 8
corners-in : (points : List Float) (corners : List ℕ) (sizes : List Float) → check_floor points corners sizes ≡ Ok tt → All (InRange (length points / 3)) (tris_of corners)
unfolding check_floor
corners-in points corners sizes e =
    let n = length points / 3 in
    let t = length corners / 3 in
    let a = passed (eqb n 0) (row 3) _ e in
    let b = passed (eqb t 0) (row 4) _ a.1 in
    let c = passed (not (eqb (length sizes) n)) (row 5) _ b.1 in
    let d = passed (ltb (lowest (bad_point points) n) n) _ _ c.1 in
    let f = passed (ltb (lowest (bad_size sizes) (length sizes)) (length sizes)) _ _ d.1 in
    let g = passed (ltb (lowest (bad_corner corners n) t) t) _ _ f.1 in
    in-range corners n t (λ i h. lowest-before (bad_corner corners n) t i (omega (arith, ltb-false (lowest (bad_corner corners n) t) t g.0)))

-- row 12
not_low : (n t angles : ℕ) (threshold : Float) (new_points new_sizes new_triangles cut_ends : ℕ) → check_rest n t angles threshold new_points new_sizes new_triangles cut_ends ≡ Ok tt → le (lit 0) threshold ≡ true
unfolding check_rest not_finite_or_below_zero
not_low n t angles threshold new_points new_sizes new_triangles cut_ends e =
    let a = passed (not (eqb angles n)) (row 5) _ e in
    let b = passed (not_finite_or_below_zero threshold) (row 12) _ a.1 in
    let c = or-none (not (is_finite threshold)) (lt threshold (lit 0)) b.0 in
    low threshold (not-false (is_finite threshold) c.0) c.1

module _ (points : List Float) (corners : List ℕ) (sizes angles : List Float) (threshold : Float) where
  made-points : length (refinement_of threshold angles points sizes (tris_of corners)).points ≡ length points + 3 * length (refinement_of threshold angles points sizes (tris_of corners)).cut
  unfolding refinement_of
  made-points = points-length points (cuts (flagged_tri threshold angles) (tris_of corners))

  pub accepted-call : (new_points new_sizes new_triangles cut_ends : ℕ) (counts : Counts)
      → answer_of (check_call points corners sizes (length angles) threshold new_points new_sizes new_triangles cut_ends) (refinement_of threshold angles points sizes (tris_of corners)) ≡ Ok counts
      → AcceptedCall threshold angles points sizes (tris_of corners) (refinement_of threshold angles points sizes (tris_of corners)) counts
  unfolding check_call refinement_of
  accepted-call new_points new_sizes new_triangles cut_ends counts e =
      let r = refinement_of threshold angles points sizes (tris_of corners) in
      let a = answered (check_call points corners sizes (length angles) threshold new_points new_sizes new_triangles cut_ends) r counts e in
      let b = passed-last (well_formed (length points) (length corners)) _ _ a.0 in
      let c = passed-both (check_floor points corners sizes) _ b.1 in
      let whole = (whole-slices (length points) (length corners) b.0).points in
      let sized = sizes-are points corners sizes c.0 in
      let high = not_low (length points / 3) (length corners / 3) (length angles) threshold new_points new_sizes new_triangles cut_ends c.1 in
      let told = a.1 in
      let cut : counts.cut ≡ length r.cut = sym (ap (λ (k : Counts). k.cut) told) in
      let points-told : counts.points ≡ length r.points / 3 = sym (ap (λ (k : Counts). k.points) told) in
      record {
        flag = flag_is threshold angles high;
        cut-sides = cut-sides (length points / 3) (flagged_tri threshold angles) (tris_of corners) (corners-in points corners sizes c.0);
        flagged = sym (ap (λ (k : Counts). k.flagged) told);
        cut = cut;
        points = omega (arith, points-told, cut, made-points, whole);
        triangles = sym (ap (λ (k : Counts). k.triangles) told);
        whole = refinement threshold angles points sizes (tris_of corners) high whole sized;
      }
