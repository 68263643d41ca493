-- A loop that goes over a list once from the front: iteration i changes element i alone, from what stood there. Assumes nothing.
use mathlib.Core.Path.{◌≡◌, refl, sym, ap, ◌∙◌}
use mathlib.Core.Logic.{⊎_elim}
use mathlib.Core.List.{List}
use Prim.Native.Nat.{ℕ, zero, suc, ◌+◌, ◌*◌, ◌≤◌, ◌<◌}
use native.Mathlib.Nat.{not-suc-le-zero, eq-or-lt_of_le, le_of_suc-le-suc, le_refl}
use native.Mathlib.Numerals.{add-one}
use native.Mathlib.Omega.{arith}
use lib.Ieee.{Float}
use lib.ListN.{length, get_or, set, length-set}
use lib.Seq.{get_or-set_same, get_or-set_other, ext_get_or}
use Rattle.complex.specs.declared.Complex.{Complex}
use Rattle.complex.specs.Complex.{cnan}
use Rattle.linear_cells.specs.Iter.{iter}
use Rattle.linear_cells.specs.Region.{tab, put}
use Rattle.linear_cells.specs.Cell.{get_c, set_c, put_c}
use Rattle.linear_cells.proofs.Loops.{iter-none, length-tab, get_or-tab}
use Rattle.linear_cells.proofs.Regions.{put-within, set-put}
use Rattle.linear_cells.proofs.Cells.{put_c-at, put_c-set}

module _ {ℓ} {A : Type ℓ} (f : ℕ → A → A) (d : A) where
  unfoldable pub over : ℕ → List A → List A
  over n v = iter (λ i u. set u i (f i (get_or u i d))) n v

  pub over_none : (v : List A) → over 0 v ≡ v
  unfolding over
  over_none v = iter-none _ v

  over-suc : (i : ℕ) (v : List A) → over (suc i) v ≡ set (over i v) i (f i (get_or (over i v) i d))
  unfolding over iter
  over-suc i v = refl

  pub over-more : (i : ℕ) (v : List A) → over (i + 1) v ≡ set (over i v) i (f i (get_or (over i v) i d))
  over-more i v = rw add-one (over-suc i v)

  pub length_over : (i : ℕ) (v : List A) → length (over i v) ≡ length v
  length_over zero v = rw over_none
  length_over (suc i) v = rw (over-suc, length-set) (length_over i v)

  -- what iteration j has yet to change, and what it changed
  pub over-todo : (i : ℕ) (v : List A) (j : ℕ) → i ≤ j → get_or (over i v) j d ≡ get_or v j d
  over-todo zero v j l = rw over_none
  over-todo (suc i) v j l = rw (over-suc, get_or-set_other (over i v) i j (f i (get_or (over i v) i d)) d (λ e. omega arith)) (over-todo i v j (omega arith))

  pub over_done : (i : ℕ) (v : List A) (j : ℕ) → j < i → i ≤ length v → get_or (over i v) j d ≡ f j (get_or v j d)
  over_done zero v j l h = absurd (not-suc-le-zero l)
  over_done (suc i) v j l h =
      let u : List A = over i v in
      let x : A = f i (get_or u i d) in
      ap (λ t. get_or t j d) (over-suc i v)
      ∙ ⊎_elim
      (λ e. rw e (get_or-set_same u i x d (rw length_over h) ∙ ap (f i) (over-todo i v i (le_refl i))))
      (λ m. get_or-set_other u i j x d (λ e. omega arith) ∙ over_done i v j m (omega arith))
      (eq-or-lt_of_le (le_of_suc-le-suc l))

  pub over-all : (v : List A) {n : ℕ} → length v ≡ n → over n v ≡ tab (λ i. f i (get_or v i d)) n
  over-all v {n} e =
      ext_get_or d _ _ (length_over n v ∙ e ∙ sym (length-tab _ n)) (λ i l.
      let m : i < n = omega (arith, length_over n v) in
      over_done n v i m (omega arith) ∙ sym (get_or-tab _ n i d m))

  -- iteration i of such a loop over a region
  pub over-region : (w : List A) (b : ℕ) (v : List A) {n : ℕ} → length v ≡ n → b + n ≤ length w → (i : ℕ) → i < n
      → set (put w b (over i v)) (b + i) (f i (get_or (put w b (over i v)) (b + i) d)) ≡ put w b (over (i + 1) v)
  over-region w b v {n} e h i l =
      let e' : length (over i v) ≡ n = length_over i v ∙ e in
      ap (λ z. set (put w b (over i v)) (b + i) (f i z)) (put-within w b (over i v) i d (omega arith) (omega arith))
      ∙ set-put w b (over i v) i _ (omega arith)
      ∙ ap (put w b) (sym (over-more i v))

-- the same over a complex vector: what is read, and what is stored
module _ (f : ℕ → Complex → Complex) (w : List Float) (b : ℕ) (v : List Complex) {n : ℕ} (e : length v ≡ n) (h : b + 2 * n ≤ length w) (i : ℕ) (l : i < n) where
  pub over-read : get_c (put_c w b (over f cnan i v)) b n i ≡ get_or v i cnan
  over-read =
      let e' : length (over f cnan i v) ≡ n = length_over f cnan i v ∙ e in
      put_c-at w b (over f cnan i v) e' i l h ∙ over-todo f cnan i v i (le_refl i)

  pub over-cell : set_c (put_c w b (over f cnan i v)) b n i (f i (get_or v i cnan)) ≡ put_c w b (over f cnan (i + 1) v)
  over-cell =
      let e' : length (over f cnan i v) ≡ n = length_over f cnan i v ∙ e in
      put_c-set w b (over f cnan i v) e' i _ l
      ∙ ap (λ z. put_c w b (set (over f cnan i v) i (f i z))) (sym (over-todo f cnan i v i (le_refl i)))
      ∙ ap (put_c w b) (sym (over-more f cnan i v))
