-- Runs of stores into a list: one behind another, one more number, and what stands before, in and behind a run. Assumes nothing.
use Prim.Native.Nat.{ℕ, zero, suc, ◌+◌, ◌≤◌, ◌<◌}
use native.Mathlib.Omega.{arith}
use native.Mathlib.Numerals.{add-one}
use mathlib.Core.Path.{◌≡◌, refl, sym, ap, ◌∙◌, subst}
use mathlib.Core.List.{List, [], ◌∷◌, ◌++◌}
use lib.ListN.{length, length-set, get_or, set, take, replicate, length-replicate}
use lib.Seq.{sets, length-sets, ext_get_or, get_or-set_same, get_or-set_other, take-suc, length-take-le}

module _ {ℓ} {A : Type ℓ} where
  replicate_more : (n : ℕ) (v : A) → replicate (suc n) v ≡ replicate n v ++ (v ∷ [])
  replicate_more zero v = refl
  replicate_more (suc n) v = ap (v ∷◌) (replicate_more n v)

  pub sets-append : (l : List A) (i : ℕ) (xs ys : List A) → sets (sets l i xs) (i + length xs) ys ≡ sets l i (xs ++ ys)
  sets-append l i [] ys = let e : i + 0 ≡ i = omega arith in ap (λ (j : ℕ). sets l j ys) e
  sets-append l i (x ∷ xs) ys =
      let e : i + suc (length xs) ≡ suc i + length xs = omega arith in
      ap (λ (j : ℕ). sets (sets (set l i x) (suc i) xs) j ys) e ∙ sets-append (set l i x) (suc i) xs ys

  -- the second run's place given as a number
  pub sets-next : (l : List A) (i j : ℕ) (xs ys : List A) → j ≡ i + length xs → sets (sets l i xs) j ys ≡ sets l i (xs ++ ys)
  sets-next l i j xs ys e = ap (λ (k : ℕ). sets (sets l i xs) k ys) e ∙ sets-append l i xs ys

  -- the next number of a copy
  pub copy_more : (l : List A) (i : ℕ) (s : List A) (j : ℕ) (d : A) → j < length s → set (sets l i (take j s)) (i + j) (get_or s j d) ≡ sets l i (take (j + 1) s)
  copy_more l i s j d h =
      let n : length (take j s) ≡ j = length-take-le j s (omega arith) in
      let z : take (j + 1) s ≡ take j s ++ (get_or s j d ∷ []) = rw add-one (take-suc s j d h) in
      subst (λ (k : ℕ). set (sets l i (take j s)) (i + k) (get_or s j d) ≡ sets l i (take (j + 1) s)) n
      (sets-append l i (take j s) (get_or s j d ∷ []) ∙ ap (sets l i) (sym z))

  -- one more of the same
  pub fill_more : (l : List A) (i n : ℕ) (v : A) → set (sets l i (replicate n v)) (i + n) v ≡ sets l i (replicate (n + 1) v)
  fill_more l i n v =
      let e : replicate (n + 1) v ≡ replicate n v ++ (v ∷ []) = rw add-one (replicate_more n v) in
      subst (λ (k : ℕ). set (sets l i (replicate n v)) (i + k) v ≡ sets l i (replicate (n + 1) v)) (length-replicate n v)
      (sets-append l i (replicate n v) (v ∷ []) ∙ ap (sets l i) (sym e))

  pub sets-before : (l : List A) (i : ℕ) (vs : List A) (j : ℕ) (d : A) → j < i → get_or (sets l i vs) j d ≡ get_or l j d
  sets-before l i [] j d h = refl
  sets-before l i (v ∷ vs) j d h = sets-before (set l i v) (suc i) vs j d (omega arith) ∙ get_or-set_other l i j v d (omega arith)

  pub sets_behind : (l : List A) (i : ℕ) (vs : List A) (j : ℕ) (d : A) → i + length vs ≤ j → get_or (sets l i vs) j d ≡ get_or l j d
  sets_behind l i [] j d h = refl
  sets_behind l i (v ∷ vs) j d h = sets_behind (set l i v) (suc i) vs j d (omega arith) ∙ get_or-set_other l i j v d (omega arith)

  -- what lies past the end is dropped
  pub sets-at : (l : List A) (i : ℕ) (vs : List A) (j : ℕ) (d : A) → i + j < length l → j < length vs → get_or (sets l i vs) (i + j) d ≡ get_or vs j d
  sets-at l i [] j d h g = absurd (omega arith)
  sets-at l i (v ∷ vs) zero d h g =
      let e : i + 0 ≡ i = omega arith in
      ap (λ (k : ℕ). get_or (sets (set l i v) (suc i) vs) k d) e ∙ sets-before (set l i v) (suc i) vs i d (omega arith) ∙ get_or-set_same l i v d (omega arith)
  sets-at l i (v ∷ vs) (suc j) d h g =
      let e : i + suc j ≡ suc i + j = omega arith in
      ap (λ (k : ℕ). get_or (sets (set l i v) (suc i) vs) k d) e ∙ sets-at (set l i v) (suc i) vs j d (omega (arith, length-set l i v)) (omega arith)

  pub sets-within : (l : List A) (i : ℕ) (vs : List A) (j : ℕ) (d : A) → i + length vs ≤ length l → j < length vs → get_or (sets l i vs) (i + j) d ≡ get_or vs j d
  sets-within l i vs j d h g = sets-at l i vs j d (omega arith) g

  -- a list stored over the whole
  pub sets-all : (d : A) (l vs : List A) → length vs ≡ length l → sets l 0 vs ≡ vs
  sets-all d l vs e =
      ext_get_or d _ vs (length-sets l 0 vs ∙ sym e) (λ i h.
      let h' : i < length l = rw length-sets at h in
      let z : 0 + i ≡ i = omega arith in
      ap (λ (k : ℕ). get_or (sets l 0 vs) k d) (sym z) ∙ sets-at l 0 vs i d (omega arith) (omega arith))

  pub fill-next : (l : List A) (n : ℕ) (v : A) → set (sets l 0 (replicate n v)) n v ≡ sets l 0 (replicate (n + 1) v)
  fill-next l n v = let z : 0 + n ≡ n = omega arith in ap (λ (k : ℕ). set (sets l 0 (replicate n v)) k v) (sym z) ∙ fill_more l 0 n v
