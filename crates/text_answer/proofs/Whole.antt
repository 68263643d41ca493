-- From a text to what it prints: the slices that were read are the text's floor, so that the refinement call's lines are `printed`, and they fit. Assumes nothing.
use Prim.Native.Nat.{ℕ, zero, suc, ◌+◌, ◌*◌, ◌/◌, ◌≤◌, ◌<◌}
use native.Mathlib.Omega.{arith}
use mathlib.Core.Path.{◌≡◌, refl, sym, ap, ◌∙◌}
use mathlib.Core.Bool.{Bool, true, false, not, cond, ◌&&◌}
use mathlib.Core.List.{List, ◌∷◌, ◌++◌}
use borrow.Author.Tests.{lt-leb, le-leb, leb-true}
use lib.Dec.{leb}
use lib.ListN.{length, take, drop, replicate}
use lib.Seq.{sets, sets-eq, take_at}
use lib.Ieee.{Float}
use Rattle.float.specs.Double.{lit}
use Rattle.floor.specs.Checks.{not_finite_or_below_zero, check_floor}
use Rattle.refinement.specs.Floor.{refinement_of, tris_of}
use Rattle.refine_call.specs.Call.{counts_of}
use Rattle.std.specs.Prelude.{Option, None, Some}
use Rattle.text_floor.specs.declared.Floor.{Floor}
use Rattle.text_floor.specs.Text.{is_text, point_count, triangle_count, points_in, angles_in, corners_in, sizes_in, threshold_in, floor_of, read_of, ReadTo}
use Rattle.text_floor.proofs.Lines.{known, points-length, angles-length, corners-length}
use Rattle.text_answer.specs.Printed.{longest, written, accepted, printed, is_sound, filled_by, count_by}
use Rattle.text_answer.specs.Steps.{bytes_from}
use Rattle.text_answer.specs.Lines.{refused_line}
use Rattle.text_answer.proofs.Stores.{lines_long}
use Rattle.text_answer.proofs.Call.{few, check-is, bytes-by}

-- ---- what was read

pub record FloorRead (s : List ℕ) (n t : ℕ) (x : Float) : Type 0 where
  pub text : is_text s ≡ true
  pub points : n ≡ point_count s
  pub triangles : t ≡ triangle_count s
  pub threshold : x ≡ threshold_in s

pub floor-read : {f : Floor} {r : Option Floor} (s : List ℕ) → r ≡ read_of s → r ≡ Some f → FloorRead s f.points f.triangles f.threshold
floor-read {f} s e h = go (is_text s) refl (sym h ∙ e)
  where
    go : (b : Bool) → is_text s ≡ b → Some f ≡ cond b (Some (floor_of s)) None → FloorRead s f.points f.triangles f.threshold
    go true i k =
        let q : f ≡ floor_of s = cc in
        record { text = i; points = ap (λ (g : Floor). g.points) q; triangles = ap (λ (g : Floor). g.triangles) q; threshold = ap (λ (g : Floor). g.threshold) q }
    go false i k = let z : ◌≡◌ {A = ℕ} 0 1 = cc in absurd (omega arith)

pub other-read : {r : Option Floor} (s : List ℕ) → r ≡ read_of s → r ≡ None → printed s ≡ refused_line
unfolding printed accepted
other-read s e h = go (is_text s) refl (sym h ∙ e)
  where
    go : (b : Bool) → is_text s ≡ b → None ≡ cond b (Some (floor_of s)) None → printed s ≡ refused_line
    go true i k = let z : ◌≡◌ {A = ℕ} 0 1 = cc in absurd (omega arith)
    go false i k = rw i refl

-- the front of a run of stores at the start
pub front_of : {A : Type 0} (l v : List A) (n : ℕ) → length v ≡ n → n ≤ length l → take n (sets l 0 v) ≡ v
front_of l v n e h = let k : 0 + length v ≤ length l = omega arith in rw (sets-eq v l 0 k) (take_at v (drop (0 + length v) l) n e)

pub take_same : {A : Type 0} (m n : ℕ) (a : A) → n ≤ m → take n (replicate m a) ≡ replicate n a
take_same m zero a h = refl
take_same zero (suc n) a h = absurd (omega arith)
take_same {A} (suc m) (suc n) a h = ap (λ (l : List A). a ∷ l) (take_same m n a (omega arith))

-- ---- what is printed

module _ (s : List ℕ) (text : is_text s ≡ true) where
  points-many : length (points_in s) ≡ 3 * point_count s
  points-many = points-length s (point_count s)

  corners-many : length (corners_in s) ≡ 3 * triangle_count s
  corners-many = corners-length s (point_count s) (triangle_count s)

  angles-many : length (angles_in s) ≡ point_count s
  angles-many = angles-length s (point_count s)

  floor-prints : bytes_from (points_in s) (corners_in s) (sizes_in s) (angles_in s) (threshold_in s) ≡ printed s
  unfolding printed accepted
  floor-prints =
      let k = known s text in
      rw (angles-many, check-is (points_in s) (sizes_in s) (corners_in s) (point_count s) (triangle_count s) k.few-points k.few-triangles points-many corners-many (threshold_in s), text)
      (bytes-by (check_floor (points_in s) (corners_in s) (sizes_in s)) (not_finite_or_below_zero (threshold_in s)) _)

-- the fronts of the slices that were read
pub text-prints : {p₀ α₀ p α : List Float} {k₀ k : List ℕ} {z : List Float} {n t : ℕ} {x : Float} {r : Option Floor} (s : List ℕ) → ReadTo s p₀ α₀ k₀ r p α k → FloorRead s n t x
    → length p₀ ≡ 768 → length α₀ ≡ 256 → length k₀ ≡ 768 → z ≡ replicate 256 (lit 0x3ff0_0000_0000_0000)
    → bytes_from (take (3 * n) p) (take (3 * t) k) (take n z) (take n α) x ≡ printed s
text-prints {p₀} {α₀} {p} {α} {k₀} {k} {z} {n} {t} {x} s h f e₁ e₂ e₃ e₄ =
    let w = known s f.text in
    let a : take (3 * n) p ≡ points_in s = rw (f.points, h.points, f.text) (front_of p₀ (points_in s) (3 * point_count s) (points-many s f.text) (omega (arith, w.few-points))) in
    let b : take (3 * t) k ≡ corners_in s = rw (f.triangles, h.corners, f.text) (front_of k₀ (corners_in s) (3 * triangle_count s) (corners-many s f.text) (omega (arith, w.few-triangles))) in
    let c : take n z ≡ sizes_in s = rw (f.points, e₄) (take_same 256 (point_count s) _ w.few-points) in
    let d : take n α ≡ angles_in s = rw (f.points, h.angles, f.text) (front_of α₀ (angles_in s) (point_count s) (angles-many s f.text) (omega (arith, w.few-points))) in
    rw (a, b, c, d, f.threshold) (floor-prints s f.text)

-- ---- the longest answer

longest-floor : (x : Float) (α p z : List Float) (l : List ℕ) → length l / 3 ≤ 256 → length (written (refinement_of x α p z (tris_of l))) ≤ longest
longest-floor x α p z l h =
    let r = refinement_of x α p z (tris_of l) in
    let w = few x α p z l in
    omega (arith, lines_long (counts_of r) r.triangles r.cut, w.triangles, w.cut)

pub printed-fits : (s : List ℕ) → length (printed s) ≤ longest
unfolding printed accepted refused_line
printed-fits s = go (is_text s) refl (is_sound (check_floor (points_in s) (corners_in s) (sizes_in s)) && not (not_finite_or_below_zero (threshold_in s)))
  where
    go : (b : Bool) → is_text s ≡ b → (c : Bool) → length (cond (b && c) (written (refinement_of (threshold_in s) (angles_in s) (points_in s) (sizes_in s) (tris_of (corners_in s)))) refused_line) ≤ longest
    go true i true = longest-floor (threshold_in s) (angles_in s) (points_in s) (sizes_in s) (corners_in s) (omega (arith, corners-many s i, (known s i).few-triangles))
    go true i false = omega arith
    go false i c = omega arith

pub answer-short : (s out : List ℕ) → length out < longest → (out ≡ filled_by s out) × (0 ≡ count_by s out)
answer-short s out h = (rw (lt-leb longest (length out) h) refl, rw (lt-leb longest (length out) h) refl)

pub answer-long : {out' : List ℕ} {n : ℕ} (s out : List ℕ) → longest ≤ length out → (out' ≡ sets out 0 (printed s)) × (n ≡ length (printed s)) → (out' ≡ filled_by s out) × (n ≡ count_by s out)
answer-long s out h e =
    let k : 0 + length (printed s) ≤ length out = omega (arith, printed-fits s) in
    let z : 0 + length (printed s) ≡ length (printed s) = omega arith in
    (e.0 ∙ rw (le-leb longest (length out) h) (sets-eq (printed s) out 0 k ∙ ap (λ (i : ℕ). printed s ++ drop i out) z), e.1 ∙ rw (le-leb longest (length out) h) refl)

-- what is written never passes the slice's end
pub count_fits : (s out : List ℕ) → count_by s out ≤ length out
count_fits s out = go (leb longest (length out)) refl
  where
    go : (b : Bool) → leb longest (length out) ≡ b → cond b (length (printed s)) 0 ≤ length out
    go true e = omega (arith, printed-fits s, leb-true longest (length out) e)
    go false e = omega arith
