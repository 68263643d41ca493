-- The call on the fronts of four slices, and marked slices compared with what is recorded after it: what each arm says of the whole row. Assumes nothing.
use Prim.Native.Nat.{ℕ, ◌-◌}
use native.Mathlib.Nat.{sub-zero}
use mathlib.Core.Path.{◌≡◌, ap, ◌∙◌}
use mathlib.Core.Bool.{Bool, true, false}
use mathlib.Core.List.{List, ◌++◌}
use lib.ListN.{length, take, drop}
use lib.Ieee.{Float}
use Rattle.refinement.specs.Floor.{Refined}
use Rattle.refine_call.specs.Call.{Answer, Called, CalledOn}
use Rattle.replay.specs.Words.{word_at}
use Rattle.replay.specs.Rows.{double_at, at_most, marks, word_marks, front}
use Rattle.replay.proofs.Fill.{put-back}
use Rattle.replay.proofs.Told.{held, unheld}
use Rattle.replay_refinements.specs.Floors.{same_answer, same_four, same_floor, Lends, found_for, made_for, as_recorded}
use Rattle.refusals.specs.Refusal.{Verdict}

-- the call, by the counts that words 5 to 8 give
pub lends : (row : List ℕ) (points : List Float) (tris : List ℕ) (sizes angles op os : List Float) (ot oe : List ℕ) {n₁ n₂ n₃ n₄ : ℕ} {threshold : Float} {a : Answer} {p s : List Float} {t e : List ℕ}
    → n₁ ≡ at_most (length op) (word_at row 5) → n₂ ≡ at_most (length os) (word_at row 6) → n₃ ≡ at_most (length ot) (word_at row 7) → n₄ ≡ at_most (length oe) (word_at row 8) → threshold ≡ double_at row 4
    → CalledOn points tris sizes angles threshold (take (n₁ - 0) op) (take (n₂ - 0) os) (take (n₃ - 0) ot) (take (n₄ - 0) oe) a p s t e
    → Lends row (found_for row points tris sizes angles op os ot oe) (made_for row points tris sizes angles) op os ot oe a
    (p ++ drop (n₁ - 0) op) (s ++ drop (n₂ - 0) os) (t ++ drop (n₃ - 0) ot) (e ++ drop (n₄ - 0) oe)
lends row points tris sizes angles op os ot oe {a} {p} {s} {t} {e} e₁ e₂ e₃ e₄ ex h =
    let found : Called (found_for row points tris sizes angles op os ot oe) (made_for row points tris sizes angles) (front row 5 op) (front row 6 os) (front row 7 ot) (front row 8 oe) a p s t e = simp (sub-zero, e₁, e₂, e₃, e₄, ex) at h in
    record { answer = found.answer; points-left = put-back op e₁ found.points; sizes-left = put-back os e₂ found.sizes; corners-left = put-back ot e₃ found.triangles; ends-left = put-back oe e₄ found.ends }

-- four slices compared with what was filled
pub same-four : {b : Bool} (p s : List Float) (t e : List ℕ) {p' p'' s' s'' : List Float} {t' t'' e' e'' : List ℕ} → p' ≡ p'' → s' ≡ s'' → t' ≡ t'' → e' ≡ e'' → b ≡ same_four p s t e p' s' t' e' → b ≡ same_four p s t e p'' s'' t'' e''
same-four p s t e ep es et ee h = rw (ep, es, et, ee) at h

module _ {row : List ℕ} {c : Verdict} {r : Refined} {a : Answer} {p s : List Float} {t e : List ℕ} {f : Bool} (h : Lends row c r (marks 72) (marks 24) (word_marks 64) (word_marks 44) a p s t e) (same : f ≡ same_answer row a) where
  pub answered : {b : Bool} → f ≡ true → b ≡ same_floor row p s t e → b ≡ as_recorded row c r
  answered v o = held v (same ∙ ap (same_answer row) h.answer) (rw (h.points-left, h.sizes-left, h.corners-left, h.ends-left) at o)

  pub unanswered : f ≡ false → false ≡ as_recorded row c r
  unanswered v = unheld _ v (same ∙ ap (same_answer row) h.answer)
