-- The refinement call on slices of full size: how many triangles and cut sides there can be, that row 18 does not come up, and that the lines of its
-- answer are those of the refined floor. Assumes nothing.
use Prim.Native.Nat.{ℕ, ◌+◌, ◌*◌, ◌/◌, ◌%◌, ◌≤◌}
use native.Mathlib.Omega.{arith}
use mathlib.Core.Path.{◌≡◌, refl, ap, ◌∙◌, subst}
use mathlib.Core.Bool.{Bool, true, false, not, cond, ◌&&◌}
use mathlib.Core.List.{List}
use borrow.Author.Tests.{eq-eqb, le-ltb, le-leb}
use lib.ListN.{length, drop}
use lib.Ieee.{Float}
use Rattle.std.specs.Prelude.{Ok, Err}
use Rattle.mesh.specs.Mesh.{cuts, mid, refined, refine}
use Rattle.mesh.proofs.Most.{cuts-most}
use Rattle.refusals.specs.Refusal.{row, Verdict}
use Rattle.floor.specs.Checks.{well_formed, not_finite_or_below_zero, and_then, check_floor}
use Rattle.refinement.specs.Flag.{flagged_tri}
use Rattle.refinement.specs.Floor.{Refined, refinement_of, tris_of, corners_of, ends_of}
use Rattle.refine_call.specs.Call.{Answer, short, check_rest, check_call, answer_of, Called}
use Rattle.text_answer.specs.Lines.{refused_line, bytes_for, Holds}
use Rattle.refinement.proofs.Triangles.{tris-length, tris-of}
use Rattle.refinement.proofs.Parts.{refined-most}
use Rattle.text_answer.proofs.Stores.{sides-of}
use Rattle.text_answer.specs.Printed.{longest, written, is_sound}
use Rattle.text_answer.specs.Steps.{bytes_of, Sized}

-- ---- how many

-- how many triangles and cut sides a refinement has, of the corners l
pub record Few (r : Refined) (l : List ℕ) : Type 0 where
  pub triangles : length r.triangles ≤ 4 * (length l / 3)
  pub cut : length r.cut ≤ 3 * (length l / 3)

pub few : (x : Float) (α p z : List Float) (l : List ℕ) → Few (refinement_of x α p z (tris_of l)) l
unfolding refinement_of refine
few x α p z l =
    let f = flagged_tri x α in
    let n = tris-length l (length l / 3) in
    record {
      triangles = subst (λ (k : ℕ). length (refined (mid (length p / 3) (cuts f (tris_of l))) (tris_of l)) ≤ 4 * k) n (refined-most (mid (length p / 3) (cuts f (tris_of l))) (tris_of l));
      cut = subst (λ (k : ℕ). length (cuts f (tris_of l)) ≤ 3 * k) n (cuts-most f (tris_of l));
    }

-- ---- the answer's lines

holds_by : {a : Answer} (c : Verdict) (r : Refined) (l : List ℕ) (m n k : ℕ) → Few r l → length l / 3 ≤ 256 → m ≡ 3072 → n ≡ 2048 → longest ≤ k → a ≡ answer_of c r → Holds a m n k
holds_by (Ok _) r l m n k w t e₁ e₂ e₃ h = rw h (omega (arith, w.triangles), (omega (arith, w.cut), omega (arith, w.triangles, w.cut)))
holds_by (Err x) r l m n k w t e₁ e₂ e₃ h = rw h (omega arith)

pub holds : {op os op' os' : List Float} {ot oe ot' oe' : List ℕ} {a : Answer} {c : Verdict} {r : Refined} (l : List ℕ) (m n k : ℕ) → Few r l → length l / 3 ≤ 256 → m ≡ 3072 → n ≡ 2048 → longest ≤ k
    → Called c r op os ot oe a op' os' ot' oe' → Holds a m n k
holds {c = c} {r} l m n k w t e₁ e₂ e₃ h = holds_by c r l m n k w t e₁ e₂ e₃ h.answer

lines_of : {op os op' os' : List Float} {ot oe ot' oe' : List ℕ} {a : Answer} (c : Verdict) (r : Refined) → Called c r op os ot oe a op' os' ot' oe' → bytes_for a ot' oe' ≡ bytes_of c r
lines_of {ot = ot} {oe} {ot'} {oe'} (Ok tt) r h =
    ap (λ (x : Answer). bytes_for x ot' oe') h.answer ∙ rw (h.triangles, h.ends, tris-of r.triangles (drop (length (corners_of r.triangles)) ot), sides-of r.cut (drop (length (ends_of r.cut)) oe)) refl
lines_of {ot' = ot'} {oe'} (Err x) r h = ap (λ (x : Answer). bytes_for x ot' oe') h.answer

-- on slices of full size
pub call-lines : {op os op' os' : List Float} {ot oe ot' oe' : List ℕ} {a : Answer} {k : ℕ} (p z : List Float) (l : List ℕ) (n : ℕ) (x : Float) (r : Refined) → Sized (length l) (length op) (length os) (length ot) (length oe) k
    → Called (check_call p l z n x (length op) (length os) (length ot) (length oe)) r op os ot oe a op' os' ot' oe' → bytes_for a ot' oe' ≡ bytes_of (check_call p l z n x 3072 1024 3072 2048) r
call-lines {op} {os} {ot = ot} {oe} p z l n x r w h =
    lines_of (check_call p l z n x (length op) (length os) (length ot) (length oe)) r h ∙ rw (w.in-points, w.in-sizes, w.in-triangles, w.in-ends) refl

-- ---- rows 1, 5 by the angles and 18 do not come up

module _ (p z : List Float) (l : List ℕ) (n t : ℕ) (small : n ≤ 256) (little : t ≤ 256) (points : length p ≡ 3 * n) (corners : length l ≡ 3 * t) (x : Float) where
  formed : well_formed (length p) (length l) ≡ true
  unfolding well_formed
  formed =
      let a : length p % 3 ≡ 0 = omega arith in
      let b : length l % 3 ≡ 0 = omega arith in
      let c : length p / 3 ≤ 16384 = omega arith in
      let d : length l / 3 ≤ 32768 = omega arith in
      rw (eq-eqb (length p % 3) 0 a, eq-eqb (length l % 3) 0 b, le-leb (length p / 3) 16384 c, le-leb (length l / 3) 32768 d) refl

  roomy : short n t 3072 1024 3072 2048 ≡ false
  unfolding short
  roomy =
      let a : 3 * (n + 3 * t) ≤ 3072 = omega arith in
      let b : n + 3 * t ≤ 1024 = omega arith in
      let c : 12 * t ≤ 3072 = omega arith in
      let d : 8 * t ≤ 2048 = omega arith in
      rw (le-ltb 3072 (3 * (n + 3 * t)) a, le-ltb 1024 (n + 3 * t) b, le-ltb 3072 (12 * t) c, le-ltb 2048 (8 * t) d) refl

  rest : check_rest n t n x 3072 1024 3072 2048 ≡ cond (not_finite_or_below_zero x) (Err (row 12)) (Ok tt)
  unfolding check_rest
  rest = rw (eq-eqb n n refl, roomy) refl

  pub check-is : check_call p l z n x 3072 1024 3072 2048 ≡ and_then (check_floor p l z) (cond (not_finite_or_below_zero x) (Err (row 12)) (Ok tt))
  unfolding check_call
  check-is =
      let a : length p / 3 ≡ n = omega arith in
      let b : length l / 3 ≡ t = omega arith in
      rw (formed, a, b, rest) refl

pub bytes-by : (c : Verdict) (b : Bool) (r : Refined) → bytes_of (and_then c (cond b (Err (row 12)) (Ok tt))) r ≡ cond (is_sound c && not b) (written r) refused_line
bytes-by (Ok _) true r = refl
bytes-by (Ok _) false r = refl
bytes-by (Err x) b r = refl
