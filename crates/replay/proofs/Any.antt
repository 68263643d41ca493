-- A test of the numbers below n, made one at a time. Assumes nothing.
use Rattle.std.proofs.Common.{◌≡◌, ℕ, zero, suc, ◌<◌, Bool, true, false, cond, ltb, length, refl, zero-add, arith, ltb-false, ltb-true}
use Rattle.std.specs.List.{AllWithin, HoldsAt, range_with_len}
use Rattle.std.specs.Prelude.{MatchBool}
use Rattle.std.proofs.lemmas.List.FromFn.{get_or-range_with_len, length-range_with_len}
use Rattle.replay.specs.Rows.{any_of}

last : (b : Bool) → true ≡ cond b true true
last true = refl
last false = refl

module _ (f : ℕ → Bool) where
  pub any_found : (n i : ℕ) → i < n → f i ≡ true → true ≡ any_of f n
  unfolding any_of
  any_found zero i l t = absurd (omega arith)
  any_found (suc n) i l t = by (ltb i n) refl (λ h. any_found n i h t)
    where
      by : (b : Bool) → ltb i n ≡ b → (i < n → true ≡ any_of f n) → true ≡ cond (any_of f n) true (f n)
      by true e below = rw (← below (ltb-true i n e))
      by false e below = let h : i ≡ n = omega (arith, ltb-false i n e) in let u : f n ≡ true = rw h at t in rw u (last (any_of f n))

  any_no : (n : ℕ) → ((k : ℕ) → k < n → f k ≡ false) → false ≡ any_of f n
  unfolding any_of
  any_no zero h = refl
  any_no (suc n) h = rw (← any_no n (λ k l. h k (omega arith)), h n (omega arith))

  -- what `any` says of the numbers below n
  pub any_by : (n : ℕ) (r : Bool) → MatchBool r ((k : ℕ) × (k < length (range_with_len 0 n)) × HoldsAt (λ x. f x ≡ true) (range_with_len 0 n) k) (AllWithin (λ x. f x ≡ false) (range_with_len 0 n) 0 (length (range_with_len 0 n)))
      → r ≡ any_of f n
  any_by n true h =
      let l : h.0 < n = omega (arith, h.1, length-range_with_len 0 n) in
      any_found n h.0 l (rw (get_or-range_with_len 0 n h.0 0 l, zero-add) at (h.2 0))
  any_by n false h = any_no n (λ k l. rw (get_or-range_with_len 0 n k 0 l, zero-add) at (h k 0 (omega arith) (omega (arith, l, length-range_with_len 0 n))))
