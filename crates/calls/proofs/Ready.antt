-- What a call that passed rows 1 to 18 has, `Ready`: each fact from the row that would have refused it. Assumes nothing.
use Prim.Native.Nat.{ℕ, zero, suc, ◌+◌, ◌*◌, ◌/◌, ◌%◌, ◌≤◌, ◌<◌}
use native.Mathlib.Nat.{div-add-mod'}
use native.Mathlib.Omega.{arith}
use mathlib.Core.Path.{◌≡◌, refl, sym, ap, ◌∙◌}
use mathlib.Core.Bool.{Bool, true, false, ◌&&◌}
use mathlib.Core.List.{List}
use borrow.Author.Tests.{eqb-true, eqb-false, ltb-false, leb-false, not-false}
use lib.Dec.{eqb, ltb, leb}
use lib.ListN.{length, get_or}
use lib.Ieee.{Float}
use Rattle.std.specs.Prelude.{Ok}
use Rattle.floor.specs.Checks.{lowest, bad_corner}
use Rattle.floor.proofs.Lowest.{lowest-before}
use Rattle.floor.proofs.Rows.{or-none, Whole, whole-slices}
use Rattle.mesh.specs.Mesh.{All}
use Rattle.mesh.specs.Claim.{InRange}
use Rattle.refinement.specs.Floor.{tris_of}
use Rattle.refinement.proofs.Triangles.{in-range}
use Rattle.pass_options.specs.Table.{no_row}
use Rattle.pass_options.specs.Options.{Guidance, guided, bad_count}
use Rattle.pass_options.proofs.Table.{first-sound}
use Rattle.calls.specs.declared.Lengths.{Lengths}
use Rattle.calls.specs.Checks.{Call, points_in, triangles_in, is_adaptive, most_points, most_triangles, short, table, check_solve, Ready}

pub row-passed : (c : Call) (l : Lengths) → check_solve c l ≡ Ok tt → (j : ℕ) → j < 18 → (get_or (table c l) j no_row).holds ≡ false
unfolding check_solve
row-passed c l e j h = first-sound (table c l) e j h

-- ---- rows 3 and 4

some : (n : ℕ) → eqb n 0 ≡ false → 0 < n
some zero e = absurd (eqb-false 0 0 e refl)
some (suc n) e = omega arith

-- ---- row 8

corner-below : (l : List ℕ) (n i r : ℕ) → bad_corner l n i ≡ false → r < 3 → get_or l (3 * i + r) 0 < n
unfolding bad_corner
corner-below l n i zero e h = let z : 3 * i + 0 ≡ 3 * i = omega arith in rw z (leb-false n (get_or l (3 * i) 0) (or-none (leb n (get_or l (3 * i) 0)) _ e).0)
corner-below l n i (suc zero) e h = leb-false n (get_or l (3 * i + 1) 0) (or-none (leb n (get_or l (3 * i + 1) 0)) _ (or-none (leb n (get_or l (3 * i) 0)) _ e).1).0
corner-below l n i (suc (suc zero)) e h = leb-false n (get_or l (3 * i + 2) 0) (or-none (leb n (get_or l (3 * i + 1) 0)) _ (or-none (leb n (get_or l (3 * i) 0)) _ e).1).1
corner-below l n i (suc (suc (suc r))) e h = absurd (omega arith)

all-below : (l : List ℕ) (n t : ℕ) → length l ≡ 3 * t → ((i : ℕ) → i < t → bad_corner l n i ≡ false) → (j : ℕ) → j < length l → get_or l j 0 < n
all-below l n t w h j g =
    let e : 3 * (j / 3) + j % 3 ≡ j = omega (arith, div-add-mod' j 3) in
    rw e at (corner-below l n (j / 3) (j % 3) (h (j / 3) (omega arith)) (omega arith))

-- ---- row 15

counted : (n : ℕ) (g : Guidance) (weight : Float) (angles : List Float) → g ≡ guided weight angles → bad_count n g ≡ false → length angles ≡ n
counted n g weight angles e h = eqb-true (length angles) n (not-false _ (rw e at h))

-- ---- row 18

and_none : (a b : Bool) → a ≡ true → (a && b) ≡ false → b ≡ false
and_none true b e h = h
and_none false b e h = let z : ◌≡◌ {A = ℕ} 0 1 = cc in absurd (omega arith)

record LengthsRoom (adaptive : Bool) (n t : ℕ) (l : Lengths) : Type 0 where
  coarse : n ≤ l.coarse
  fine : adaptive ≡ true → most_points true n t ≤ l.fine
  reals : 64 * most_points adaptive n t + 32 * most_triangles adaptive t ≤ l.work
  words : 16 * most_points adaptive n t + 32 * most_triangles adaptive t ≤ l.words

roomy : (adaptive : Bool) (n t : ℕ) (l : Lengths) → short adaptive n t l ≡ false → LengthsRoom adaptive n t l
unfolding short
roomy adaptive n t l e =
    let a = or-none (ltb l.coarse n) _ e in
    let b = or-none (adaptive && ltb l.fine (most_points adaptive n t)) _ a.1 in
    let d = or-none (ltb l.work (64 * most_points adaptive n t + 32 * most_triangles adaptive t)) _ b.1 in
    record {
      coarse = ltb-false l.coarse n a.0;
      fine = λ h. ltb-false l.fine (most_points true n t) (ap (λ (z : Bool). ltb l.fine (most_points z n t)) (sym h) ∙ and_none adaptive _ h b.0);
      reals = ltb-false l.work _ d.0;
      words = ltb-false l.words _ d.1;
    }

-- ---- the call

module _ (c : Call) (l : Lengths) (sound : check_solve c l ≡ Ok tt) where
  whole : Whole (length c.points) (length c.corners)
  whole = whole-slices (length c.points) (length c.corners) (not-false _ (row-passed c l sound 0 (omega arith)))

  no-bad-corner : (i : ℕ) → i < triangles_in c → bad_corner c.corners (points_in c) i ≡ false
  no-bad-corner i h = lowest-before (bad_corner c.corners (points_in c)) (triangles_in c) i (omega (arith, ltb-false (lowest (bad_corner c.corners (points_in c)) (triangles_in c)) (triangles_in c) (row-passed c l sound 7 (omega arith))))

  room : LengthsRoom (is_adaptive c.options) (points_in c) (triangles_in c) l
  room = roomy (is_adaptive c.options) (points_in c) (triangles_in c) l (row-passed c l sound 17 (omega arith))

  pub sound-ready : Ready c l
  sound-ready = record {
    whole = whole.points;
    whole-corners = whole.corners;
    few-points = whole.few.0;
    few-triangles = whole.few.1;
    some-points = some (points_in c) (row-passed c l sound 2 (omega arith));
    some-triangles = some (triangles_in c) (row-passed c l sound 3 (omega arith));
    sized = eqb-true (length c.sizes) (points_in c) (not-false _ (row-passed c l sound 4 (omega arith)));
    corners = all-below c.corners (points_in c) (triangles_in c) whole.corners no-bad-corner;
    guided-all = λ weight angles e. counted (points_in c) c.guidance weight angles e (row-passed c l sound 14 (omega arith));
    coarse-room = room.coarse;
    fine-room = room.fine;
    reals-room = room.reals;
    words-room = room.words;
  }

  -- the same corners as the triangles that a pass gets
  pub corners-in : All (InRange (points_in c)) (tris_of c.corners)
  corners-in = in-range c.corners (points_in c) (triangles_in c) no-bad-corner
