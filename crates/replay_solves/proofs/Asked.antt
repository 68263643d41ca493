-- The call on the fronts of four slices, and marked slices compared with what is recorded after it: what each arm says of the whole row. Assumes nothing.
use Prim.Native.Nat.{ℕ, ◌+◌, ◌-◌, ◌≤◌}
use native.Mathlib.Nat.{sub-zero}
use native.Mathlib.Omega.{arith}
use mathlib.Core.Path.{◌≡◌, ap, sym, ◌∙◌}
use mathlib.Core.Bool.{Bool, true, false}
use mathlib.Core.List.{List, ◌++◌}
use lib.ListN.{length, take, drop, replicate, length-replicate}
use lib.Seq.{sets, length-take-le}
use lib.Ieee.{Float}
use Rattle.refinement.specs.Floor.{over}
use Rattle.pass_options.specs.declared.Options.{Options}
use Rattle.pass.specs.declared.Asked.{Asked}
use Rattle.pass.specs.Pass.{pass_of}
use Rattle.calls.specs.Solve.{Ended, Ends, solve_of}
use Rattle.solve.specs.Passes.{call_for, lent}
use Rattle.replay.specs.Rows.{up_to, at_most}
use Rattle.replay.proofs.Fill.{fill-length, over-front, put-back}
use Rattle.replay.proofs.Told.{held, unheld}
use Rattle.replay_solves.specs.Row.{count_at}
use Rattle.replay_solves.specs.Solve.{options_in, asked_in, same_outcome, same_angles, same_work, put_back, solved_on, Lends, marked, as_recorded, solve_on}
use Rattle.calls.specs.Checks.{Outcome}

-- the call, by the counts that word 2 gives
pub lends : (row : List ℕ) (points : List Float) (tris : List ℕ) (sizes angles coarse fine work : List Float) (words : List ℕ) {n₁ n₂ n₃ n₄ : ℕ} {o : Options} {a : Asked} {r : Outcome} {x y z : List Float} {u : List ℕ}
    → n₁ ≡ count_at row 2 0 (length coarse) → n₂ ≡ count_at row 2 1 (length fine) → n₃ ≡ count_at row 2 2 (length work) → n₄ ≡ count_at row 2 3 (length words) → o ≡ options_in row → a ≡ asked_in row
    → Ends (solve_of pass_of (call_for points tris sizes angles o a) (lent (take (n₁ - 0) coarse) (take (n₂ - 0) fine) (take (n₃ - 0) work) (take (n₄ - 0) words))) r x y z u
    → Lends row (solved_on row points tris sizes angles (lent coarse fine work words)) (lent coarse fine work words) r
    (x ++ drop (n₁ - 0) coarse) (y ++ drop (n₂ - 0) fine) (z ++ drop (n₃ - 0) work) (u ++ drop (n₄ - 0) words)
lends row points tris sizes angles coarse fine work words {r} {x} {y} {z} {u} e₁ e₂ e₃ e₄ eo ea h =
    let found : Ends (solved_on row points tris sizes angles (lent coarse fine work words)) r x y z u = simp (sub-zero, e₁, e₂, e₃, e₄, eo, ea) at h in
    record { outcome = found.outcome; coarse-left = put-back coarse e₁ found.coarse-left; fine-left = put-back fine e₂ found.fine-left; work-left = put-back work e₃ found.work-left; words_left = put-back words e₄ found.words_left }

module _ (k : ℕ) {row : List ℕ} {e : Ended} {r : Outcome} {x y z : List Float} {u : List ℕ} {f : Bool} (h : Lends row e marked r x y z u) (same : f ≡ same_outcome row r) where
  pub unanswered : f ≡ false → false ≡ as_recorded row k e.outcome (put_back row marked e.lent)
  unanswered v = unheld _ v (same ∙ ap (same_outcome row) h.outcome)

  pub other-angles : {g : Bool} → f ≡ true → g ≡ same_angles row k x y → g ≡ false → false ≡ as_recorded row k e.outcome (put_back row marked e.lent)
  other-angles v a w = held v (same ∙ ap (same_outcome row) h.outcome) (unheld _ w (rw (h.coarse-left, h.fine-left) at a))

  pub answered : {g b : Bool} → f ≡ true → g ≡ same_angles row k x y → g ≡ true → b ≡ same_work row z u → b ≡ as_recorded row k e.outcome (put_back row marked e.lent)
  answered v a w o = held v (same ∙ ap (same_outcome row) h.outcome) (held w (rw (h.coarse-left, h.fine-left) at a) (rw (h.work-left, h.words_left) at o))

module _ {A : Type 0} where
  -- a front of n zeros, put back
  pub wiped-front : (x : A) (old : List A) (n : ℕ) {new : List A} → n ≤ length old → new ≡ replicate (length (take (n - 0) old)) x → new ++ drop (n - 0) old ≡ over (replicate n x) old
  wiped-front x old n h e =
      let l : length (take (n - 0) old) ≡ n = ap (λ (k : ℕ). length (take k old)) (sub-zero n) ∙ length-take-le n old h in
      put-back old (sym (length-replicate n x)) (e ∙ ap (λ (k : ℕ). replicate k x) l)

  pub wiped-as : (x : A) (old : List A) {out : List A} {n n' : ℕ} → n ≡ n' → out ≡ over (replicate n x) old → out ≡ over (replicate n' x) old
  wiped-as x old e h = rw e at h

  -- what is given from word k on, over z, cut to its count
  pub given-front : (g : ℕ → A) (z : A) (row : List ℕ) (i m k n : ℕ) {out : List A} {k' : ℕ} → out ≡ sets (replicate m z) 0 (up_to (λ j. g (k + j)) (at_most (length (replicate m z)) n))
      → k ≡ k' → n ≡ count_at row 1 i m → n ≤ m → take (count_at row 1 i (length out)) out ≡ up_to (λ j. g (k' + j)) (count_at row 1 i m)
  given-front g z row i m k n {out} {k'} o ek en b =
      let room : length (replicate m z) ≡ m = length-replicate m z in
      let whole : length out ≡ m = fill-length (λ j. g (k + j)) (replicate m z) (at_most (length (replicate m z)) n) o ∙ room in
      rw (whole, ← ek) (over-front (λ j. g (k + j)) (replicate m z) en (omega arith) o)

pub solve-as : {b : Bool} (row : List ℕ) {k k' : ℕ} {p p' s s' a a' : List Float} {t t' : List ℕ} → k ≡ k' → p ≡ p' → t ≡ t' → s ≡ s' → a ≡ a' → b ≡ solve_on row k p t s a → b ≡ solve_on row k' p' t' s' a'
solve-as row ek ep et es ea h = rw (ek, ep, et, es, ea) at h
