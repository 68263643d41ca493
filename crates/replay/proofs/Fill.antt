-- A slice filled one place at a time: what stands after one more, and its front. Assumes nothing.
use Rattle.std.proofs.Common.{◌≡◌, ℕ, zero, suc, ◌+◌, ◌-◌, ◌≤◌, Bool, true, false, cond, ltb, List, [], ◌∷◌, ◌++◌, length, take, drop, set, sym, refl, ap, ◌∙◌, zero-add, add-one, arith, length-append, take_all, take_at, ltb-false}
use native.Mathlib.Nat.{sub-zero}
use lib.Seq.{sets, length-sets, sets-eq}
use Rattle.slices.proofs.Runs.{sets-append}
use Rattle.replay.specs.Rows.{up_to, at_most}

at-most : (most n : ℕ) → n ≤ most → at_most most n ≡ n
at-most most n h = by-test (ltb n most) refl
  where
    by-test : (t : Bool) → ltb n most ≡ t → cond t n most ≡ n
    by-test true e = refl
    by-test false e = omega (arith, ltb-false n most e)

module _ {A : Type 0} where
  up_to-length : (f : ℕ → A) (i : ℕ) → length (up_to f i) ≡ i
  unfolding up_to
  up_to-length f zero = refl
  up_to-length f (suc i) = length-append (up_to f i) (f i ∷ []) ∙ omega (arith, up_to-length f i)

  pub fill_none : (f : ℕ → A) (l : List A) → l ≡ sets l 0 (up_to f 0)
  unfolding up_to
  fill_none f l = refl

  pub fill_more : (f : ℕ → A) (l : List A) {out out' : List A} (i : ℕ) {y : A} → out ≡ sets l 0 (up_to f i) → y ≡ f i → out' ≡ set out i y → out' ≡ sets l 0 (up_to f (i + 1))
  unfolding up_to
  fill_more f l i {y} h e s =
      let n : i ≡ 0 + length (up_to f i) = omega (arith, up_to-length f i) in
      s ∙ rw (h, e, add-one i) (ap (λ (k : ℕ). set (sets l 0 (up_to f i)) k (f i)) n ∙ sets-append l 0 (up_to f i) (f i ∷ []))

  pub fill-length : (f : ℕ → A) (l : List A) {out : List A} (i : ℕ) → out ≡ sets l 0 (up_to f i) → length out ≡ length l
  fill-length f l i h = ap length h ∙ length-sets l 0 (up_to f i)

  -- the front of a filled slice is what it was filled with
  pub fill-front : (f : ℕ → A) (l : List A) {out : List A} (n : ℕ) → n ≤ length l → out ≡ sets l 0 (up_to f n) → take n out ≡ up_to f n
  fill-front f l n h e =
      rw (e, sets-eq (up_to f n) l 0 (omega (arith, up_to-length f n))) (take_at (up_to f n) _ n (up_to-length f n))

  -- a slice that is filled to its end
  pub fill-whole : (f : ℕ → A) (l : List A) {out : List A} (n : ℕ) → length l ≡ n → out ≡ sets l 0 (up_to f n) → out ≡ up_to f n
  fill-whole f l {out} n h e = sym (take_all n out (omega (arith, fill-length f l n e))) ∙ fill-front f l n (omega arith) e

  -- a slice with room for n: they stand over what was there
  pub fill-over : (f : ℕ → A) (l : List A) {out : List A} {n n' : ℕ} → n ≡ n' → n ≤ length l → out ≡ sets l 0 (up_to f (at_most (length l) n)) → out ≡ up_to f n' ++ drop (length (up_to f n')) l
  fill-over f l {n} {n'} e h o =
      let m : at_most (length l) n ≡ n' = at-most (length l) n h ∙ e in
      o ∙ rw (m, sets-eq (up_to f n') l 0 (omega (arith, up_to-length f n')), zero-add)

  -- its front
  pub over-front : (f : ℕ → A) (l : List A) {out : List A} {n n' : ℕ} → n ≡ n' → n ≤ length l → out ≡ sets l 0 (up_to f (at_most (length l) n)) → take n' out ≡ up_to f n'
  over-front f l {n} {n'} e h o = ap (take n') (fill-over f l e h o) ∙ take_at (up_to f n') _ n' (up_to-length f n')

  -- a lent front of n, put back
  pub put-back : (old : List A) {n m : ℕ} {new new' : List A} → n ≡ m → new ≡ new' → new ++ drop (n - 0) old ≡ new' ++ drop m old
  put-back old e h = simp (sub-zero, e, h)
