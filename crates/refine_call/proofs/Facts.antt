-- What an accepted call knows of its slices, and what they hold when it is done. Assumes nothing.
use Prim.Native.Nat.{ℕ, ◌+◌, ◌*◌, ◌/◌, ◌≤◌}
use native.Mathlib.Omega.{arith}
use mathlib.Core.Path.{◌≡◌, refl, sym, ap, ◌∙◌, subst}
use mathlib.Core.Logic.{◌≢◌}
use mathlib.Core.Bool.{Bool, true, false, not, cond}
use mathlib.Core.List.{List}
use borrow.Author.Tests.{eqb-true, ltb-false, not-false}
use lib.Dec.{eqb, ltb}
use lib.ListN.{length, take}
use lib.Seq.{sets, take-length}
use lib.Ieee.{Float}
use Rattle.std.specs.Prelude.{Ok, Err}
use Rattle.mesh.specs.Mesh.{mid, cuts, refine, refined}
use Rattle.mesh.specs.Points.{more_points, more_sizes}
use Rattle.edges.specs.Table.{pairs}
use Rattle.edges.specs.TwoSlices.{lo_at, hi_at, sides_at}
use Rattle.edges.proofs.Tree.{length_pairs}
use Rattle.refusals.specs.declared.Refusal.{Refusal}
use Rattle.refusals.specs.Refusal.{row, Verdict}
use Rattle.floor.specs.Checks.{well_formed, not_finite_or_below_zero, and_then, check_floor}
use Rattle.floor.proofs.Rows.{or-none, whole-slices}
use Rattle.refinement.specs.declared.Cut.{Cut}
use Rattle.refinement.specs.Flag.{flagged_tri}
use Rattle.refinement.specs.Floor.{tris, tris_of, corners_of, Refined, refinement_of}
use Rattle.refinement.proofs.Runs.{front}
use Rattle.refinement.proofs.Triangles.{tris-length, corners-length}
use Rattle.refinement.proofs.Parts.{refined-most}
use Rattle.mesh.proofs.Points.{points-length, sizes-length}
use Rattle.refinement.specs.Stored.{Stored}
use Rattle.refine_call.specs.Marks.{marked_by, MarksRoom, Marked}
use Rattle.refine_call.proofs.Splitting.{front_same}
use Rattle.refine_call.specs.declared.Counts.{Counts}
use Rattle.refine_call.specs.Call.{Answer, answer_of, Called, short, check_rest, check_call}
use Rattle.refine_call.specs.Steps.{Marks, Pieces, Filled, ResultRoom, FloorRoom, PutsFloor}
use Rattle.refine_call.proofs.Lists.{refined-none, corners-of-tris, ends-front}

-- ---- tests

no : {A : Type 0} (x : Refusal) → ◌≡◌ {A = Verdict} (Err x) (Ok tt) → A
no x e = let z : ◌≡◌ {A = ℕ} 0 1 = cc in absurd (omega arith)

pub passed : (b : Bool) (x : Refusal) (rest : Verdict) → cond b (Err x) rest ≡ Ok tt → (b ≡ false) × (rest ≡ Ok tt)
passed true x rest e = no x e
passed false x rest e = (refl, e)

pub passed-last : (b : Bool) (x : Refusal) (rest : Verdict) → cond b rest (Err x) ≡ Ok tt → (b ≡ true) × (rest ≡ Ok tt)
passed-last true x rest e = (refl, e)
passed-last false x rest e = no x e

pub passed-both : (c rest : Verdict) → and_then c rest ≡ Ok tt → (c ≡ Ok tt) × (rest ≡ Ok tt)
passed-both (Ok _) rest e = (refl, e)
passed-both (Err x) rest e = no x e

pub sizes-are : (points : List Float) (triangles : List ℕ) (sizes : List Float) → check_floor points triangles sizes ≡ Ok tt → length sizes ≡ length points / 3
unfolding check_floor
sizes-are points triangles sizes e =
    let a = passed (eqb (length points / 3) 0) (row 3) _ e in
    let b = passed (eqb (length triangles / 3) 0) (row 4) _ a.1 in
    let c = passed (not (eqb (length sizes) (length points / 3))) (row 5) _ b.1 in
    eqb-true (length sizes) (length points / 3) (not-false _ c.0)

record Long (n t new_points new_sizes new_triangles cut_ends : ℕ) : Type 0 where
  in-points : 3 * (n + 3 * t) ≤ new_points
  in-sizes : n + 3 * t ≤ new_sizes
  in-triangles : 12 * t ≤ new_triangles
  in-ends : 8 * t ≤ cut_ends

long : (n t new_points new_sizes new_triangles cut_ends : ℕ) → short n t new_points new_sizes new_triangles cut_ends ≡ false → Long n t new_points new_sizes new_triangles cut_ends
unfolding short
long n t new_points new_sizes new_triangles cut_ends e =
    let a = or-none (ltb new_points (3 * (n + 3 * t))) _ e in
    let b = or-none (ltb new_sizes (n + 3 * t)) _ a.1 in
    let c = or-none (ltb new_triangles (12 * t)) _ b.1 in
    record {
      in-points = ltb-false new_points (3 * (n + 3 * t)) a.0;
      in-sizes = ltb-false new_sizes (n + 3 * t) b.0;
      in-triangles = ltb-false new_triangles (12 * t) c.0;
      in-ends = ltb-false cut_ends (8 * t) c.1;
    }

rest-long : (n t angles : ℕ) (threshold : Float) (new_points new_sizes new_triangles cut_ends : ℕ) → check_rest n t angles threshold new_points new_sizes new_triangles cut_ends ≡ Ok tt → Long n t new_points new_sizes new_triangles cut_ends
unfolding check_rest
rest-long n t angles threshold new_points new_sizes new_triangles cut_ends e =
    let a = passed (not (eqb angles n)) (row 5) _ e in
    let b = passed (not_finite_or_below_zero threshold) (row 12) _ a.1 in
    long n t new_points new_sizes new_triangles cut_ends (passed (short n t new_points new_sizes new_triangles cut_ends) (row 18) (Ok tt) b.1).0

pub roomy : (points : List Float) (triangles : List ℕ) (sizes : List Float) (angles : ℕ) (threshold : Float) (new_points new_sizes new_triangles cut_ends : ℕ)
    → check_call points triangles sizes angles threshold new_points new_sizes new_triangles cut_ends ≡ Ok tt → ResultRoom (length points) (length triangles) (length sizes) new_points new_sizes new_triangles cut_ends
unfolding check_call
roomy points triangles sizes angles threshold new_points new_sizes new_triangles cut_ends e =
    let a = passed-last (well_formed (length points) (length triangles)) _ _ e in
    let b = passed-both (check_floor points triangles sizes) _ a.1 in
    let f = whole-slices (length points) (length triangles) a.0 in
    let l = rest-long (length points / 3) (length triangles / 3) angles threshold new_points new_sizes new_triangles cut_ends b.1 in
    record {
      whole = f.points;
      whole-corners = f.corners;
      few-points = f.few.0;
      few-triangles = f.few.1;
      sized = sizes-are points triangles sizes b.0;
      in-points = l.in-points;
      in-sizes = l.in-sizes;
      in-triangles = l.in-triangles;
      in-ends = l.in-ends;
    }

-- ---- lengths

counts_same : {p p' k k' c c' m m' : ℕ} → p ≡ p' → k ≡ k' → c ≡ c' → m ≡ m'
    → ◌≡◌ {A = Counts} (record { points = p; triangles = k; flagged = c; cut = m }) (record { points = p'; triangles = k'; flagged = c'; cut = m' })
counts_same e₁ e₂ e₃ e₄ = rw (e₁, e₂, e₃, e₄)

third : (a b : ℕ) → a ≡ 3 * b → b ≡ a / 3
third a b e = omega arith

-- ---- from a check to an answer

pub rest-sound : (c rest r : Verdict) → c ≡ Ok tt → r ≡ rest → r ≡ and_then c rest
rest-sound c rest r e h = rw e h

pub rest-refused : (c rest r : Verdict) (x : Refusal) → c ≡ Err x → r ≡ Err x → r ≡ and_then c rest
rest-refused c rest r x e h = rw e h

pub called-refused : {r : Refined} {new_points new_sizes : List Float} {new_triangles cut_ends : List ℕ} {a : Answer} (c c' : Verdict) (x : Refusal) → c ≡ c' → c ≡ Err x
    → a ≡ answer_of (Err x) r → Called c' r new_points new_sizes new_triangles cut_ends a new_points new_sizes new_triangles cut_ends
called-refused c c' x e h g = let z : c' ≡ Err x = sym e ∙ h in rw z (record { answer = g; points = refl; sizes = refl; triangles = refl; ends = refl })

pub called-done : {r : Refined} {new_points new_sizes new_points' new_sizes' : List Float} {new_triangles cut_ends new_triangles' cut_ends' : List ℕ}
    {a : Counts} (c c' : Verdict) → c ≡ c' → c ≡ Ok tt → Filled r new_points new_sizes new_triangles cut_ends a new_points' new_sizes' new_triangles' cut_ends'
    → Called c' r new_points new_sizes new_triangles cut_ends (Ok a) new_points' new_sizes' new_triangles' cut_ends'
called-done c c' e h g =
    let z : c' ≡ Ok tt = sym e ∙ h in
    rw z (record { answer = ap Ok g.counts; points = g.points; sizes = g.sizes; triangles = g.triangles; ends = g.ends })

-- ---- the pieces

module _ {n : ℕ} {cut : Cut} {l e w w' : List ℕ} (h : Marks n cut l e w) where
  -- where no side is cut the triangles stay
  pub pieces_none : cut.flagged ≡ 0 → w' ≡ sets w 0 l → Pieces n cut l e w w' (length l / 3)
  unfolding pairs
  pieces_none z s =
      let none : cut.sides ≡ 0 = h.no_sides z in
      let stay : refined (mid n (sides_at e cut.sides)) (tris_of l) ≡ tris_of l = rw none (refined-none n (tris_of l)) in
      let corners : corners_of (tris_of l) ≡ l = corners-of-tris l (length l / 3) (omega (arith, h.whole)) ∙ ap (λ (k : ℕ). take k l) (sym h.whole) ∙ take-length l in
      record {
        stored = rw stay (record { stands = s ∙ ap (sets w 0) (sym corners); counted = omega (arith, tris-length l (length l / 3)) });
        least = omega arith;
      }

  pub pieces-some : {k : ℕ} → cut.flagged ≢ 0 → Stored (refined (mid n (sides_at e cut.sides)) (tris l (length l / 3))) w 0 0 w' k × (length l / 3 + 3 * length (marked_by w l (length l / 3)) ≤ k)
      → Pieces n cut l e w w' k
  pieces-some q s = record { stored = s.0; least = omega (arith, s.1, h.as_many q) }

-- ---- what is written

module _ (threshold : Float) (angles points sizes : List Float) (l : List ℕ) (new_points new_sizes : List Float) (new_triangles cut_ends : List ℕ)
    (room : ResultRoom (length points) (length l) (length sizes) (length new_points) (length new_sizes) (length new_triangles) (length cut_ends)) where
  pub marks-room : MarksRoom (length points / 3) (3 * (length l / 3)) (3 * (length l / 3)) (length l / 3) (length l) (length cut_ends) (length new_triangles)
  marks-room = record {
    marks-before = omega arith;
    corners-in = omega (arith, room.whole-corners);
    ends-in = omega (arith, room.in-ends);
    marks-in = omega (arith, room.in-triangles);
    few = omega (arith, room.few-points, room.few-triangles);
  }

  module _ {ends marks : List ℕ} {cut : Cut} (found : Marked (flagged_tri threshold angles) (length points / 3) l (length l / 3) cut_ends new_triangles ends marks cut) where
    pub marks-made : Marks (length points / 3) cut l ends marks
    marks-made = record {
      whole = room.whole-corners;
      room = omega (arith, room.in-triangles, found.same);
      few = (omega (arith, room.few-points, room.few-triangles, found.few, found.seldom), omega (arith, room.few-triangles));
      no_sides = λ z. omega (arith, found.few);
      held = found.held;
      as_many = found.as_many;
      cut-marks = found.cut-marks;
    }

    pub floor-room : FloorRoom (length points) (length sizes) (length ends) cut.sides (length new_points) (length new_sizes)
    floor-room = record {
      ends-in = omega (arith, room.in-ends, found.same_ends, found.few, found.seldom);
      in-points = omega (arith, room.whole, room.in-points, found.few, found.seldom);
      in-sizes = omega (arith, room.sized, room.in-sizes, found.few, found.seldom);
    }

    pub filled : {new_points' new_sizes' : List Float} {new_triangles' : List ℕ} {k : ℕ} → Pieces (length points / 3) cut l ends marks new_triangles' k
        → PutsFloor points sizes (sides_at ends cut.sides) new_points new_sizes new_points' new_sizes'
        → Filled (refinement_of threshold angles points sizes (tris_of l)) new_points new_sizes new_triangles cut_ends
        (record { points = length points / 3 + cut.sides; triangles = k; flagged = cut.flagged; cut = cut.sides }) new_points' new_sizes' new_triangles' ends
    unfolding refinement_of refine
    filled {k = k} made put =
        let n = length points / 3 in
        let L = cuts (flagged_tri threshold angles) (tris_of l) in
        let s : sides_at ends cut.sides ≡ cuts (flagged_tri threshold angles) (tris_of l) = found.all-cut in
        let len : cut.sides ≡ length (cuts (flagged_tri threshold angles) (tris_of l)) = sym (length_pairs (lo_at ends) (hi_at ends) cut.sides) ∙ ap length s in
        let new = refined (mid n L) (tris_of l) in
        let stored : Stored new marks 0 0 _ k = rw s at made.stored in
        let long = corners-length new in
        let many : length new ≤ 4 * (length l / 3) = subst (λ (z : ℕ). length new ≤ 4 * z) (tris-length l (length l / 3)) (refined-most (mid n L) (tris_of l)) in
        let p = points-length points L in
        let z = sizes-length sizes L in
        record {
          counts = counts_same (third (length (more_points points L)) (n + cut.sides) (omega (arith, p, room.whole, len))) (omega (arith, stored.counted)) found.flagged len;
          points = rw s at put.points-put ∙ front new_points (more_points points L) (omega (arith, p, room.whole, len, room.in-points, found.few, found.seldom));
          sizes = rw s at put.sizes-put ∙ front new_sizes (more_sizes sizes L) (omega (arith, z, room.sized, len, room.in-sizes, found.few, found.seldom));
          triangles = stored.stands
              ∙ front_same (corners_of new) marks new_triangles (omega (arith, long, many, room.in-triangles, found.same)) found.same (λ j g. found.behind j (omega (arith, long, stored.counted, made.least)))
              ∙ front new_triangles (corners_of new) (omega (arith, long, many, room.in-triangles));
          ends = rw s at (ends-front cut_ends ends cut.sides (omega (arith, room.in-ends, found.same_ends, found.few, found.seldom)) found.same_ends found.ends-behind);
        }
