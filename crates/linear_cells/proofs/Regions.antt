-- Laws of `region` and `put`, over any kind of element: what is read after a store, and in which order stores may be taken. Assumes nothing.
use mathlib.Core.Path.{◌≡◌, refl, sym, ap, ◌∙◌}
use mathlib.Core.Logic.{⊎_elim}
use mathlib.Core.List.{List, [], ◌∷◌, ◌++◌}
use Prim.Native.Nat.{ℕ, zero, suc, ◌+◌, ◌≤◌, ◌<◌}
use native.Mathlib.Nat.{le_of_suc-le-suc, not-suc-le-zero, zero-add, add-zero, add-suc, suc-add}
use native.Mathlib.Omega.{arith}
use lib.ListN.{length, get_or, set}
use lib.Seq.{sets, length-sets, set_comm, set-set, set-get_or, ext_get_or}
use Rattle.slices.proofs.Runs.{sets-append, sets-before, sets_behind, sets-at}
use Rattle.linear_cells.specs.Region.{region, put, Apart}
use Rattle.linear_cells.proofs.Loops.{apart-cases, length-tab, get_or-tab, tab-ext}

module _ {ℓ} {A : Type ℓ} where
  pub length-region : (d : A) (xs : List A) (at n : ℕ) → length (region d xs at n) ≡ n
  unfolding region
  length-region d xs at n = length-tab _ n

  pub get_or-region : (xs : List A) (at n i : ℕ) (d : A) → i < n → get_or (region d xs at n) i d ≡ get_or xs (at + i) d
  unfolding region
  get_or-region xs at n i d l = get_or-tab _ n i d l

  pub length-put : (xs : List A) (at : ℕ) (vs : List A) → length (put xs at vs) ≡ length xs
  unfolding put
  length-put xs at vs = length-sets xs at vs

  pub put-sets : (xs : List A) (at : ℕ) (vs : List A) → put xs at vs ≡ sets xs at vs
  unfolding put
  put-sets xs at vs = refl

  pub put-append : (w : List A) (at : ℕ) (xs ys : List A) → put w at (xs ++ ys) ≡ put (put w at xs) (at + length xs) ys
  unfolding put
  put-append w at xs ys = sym (sets-append w at xs ys)

  -- the second run's place given as a number
  pub put_next : (w : List A) (at : ℕ) (xs ys : List A) {n : ℕ} → length xs ≡ n → put (put w at xs) (at + n) ys ≡ put w at (xs ++ ys)
  put_next w at xs ys e = rw (sym e) (sym (put-append w at xs ys))

  -- ---- one element after a put: below it, above it, within it
  put-below : (xs : List A) (at : ℕ) (vs : List A) (i : ℕ) (d : A) → i < at → get_or (put xs at vs) i d ≡ get_or xs i d
  unfolding put
  put-below xs at vs i d l = sets-before xs at vs i d l

  put-above : (xs : List A) (at : ℕ) (vs : List A) (i : ℕ) (d : A) → at + length vs ≤ i → get_or (put xs at vs) i d ≡ get_or xs i d
  unfolding put
  put-above xs at vs i d l = sets_behind xs at vs i d l

  pub put-within : (xs : List A) (at : ℕ) (vs : List A) (i : ℕ) (d : A) → i < length vs → at + i < length xs → get_or (put xs at vs) (at + i) d ≡ get_or vs i d
  unfolding put
  put-within xs at vs i d l h = sets-at xs at vs i d h l

  -- ---- a store after a put
  set-put-below : (xs : List A) (at : ℕ) (vs : List A) (i : ℕ) (x : A) → i < at → set (put xs at vs) i x ≡ put (set xs i x) at vs
  unfolding put
  set-put-below xs at [] i x l = refl
  set-put-below xs at (v ∷ vs) i x l =
      set-put-below (set xs at v) (suc at) vs i x (omega arith) ∙ ap (λ l. put l (suc at) vs) (set_comm xs at i v x (λ e. omega arith))

  set-put-above : (xs : List A) (at : ℕ) (vs : List A) (i : ℕ) (x : A) → at + length vs ≤ i → set (put xs at vs) i x ≡ put (set xs i x) at vs
  unfolding put
  set-put-above xs at [] i x l = refl
  set-put-above xs at (v ∷ vs) i x l =
      set-put-above (set xs at v) (suc at) vs i x (omega arith) ∙ ap (λ l. put l (suc at) vs) (set_comm xs at i v x (λ e. omega arith))

  pub set-put : (xs : List A) (at : ℕ) (vs : List A) (i : ℕ) (x : A) → i < length vs → set (put xs at vs) (at + i) x ≡ put xs at (set vs i x)
  unfolding put
  set-put xs at [] i x l = absurd (not-suc-le-zero l)
  set-put xs at (v ∷ vs) zero x l =
      rw add-zero (set-put-below (set xs at v) (suc at) vs at x (omega arith) ∙ ap (λ l. put l (suc at) vs) (set-set xs at v x))
  set-put xs at (v ∷ vs) (suc i) x l = rw (add-suc, ← suc-add) (set-put (set xs at v) (suc at) vs i x (le_of_suc-le-suc l))

  -- ---- a put after a put
  put-put-same : (xs : List A) (at : ℕ) (us vs : List A) → length us ≡ length vs → put (put xs at us) at vs ≡ put xs at vs
  unfolding put
  put-put-same xs at [] [] e = refl
  put-put-same xs at [] (v ∷ vs) e = absurd (omega arith)
  put-put-same xs at (u ∷ us) [] e = absurd (omega arith)
  put-put-same xs at (u ∷ us) (v ∷ vs) e =
      ap (λ l. put l (suc at) vs) (set-put-below (set xs at u) (suc at) us at v (omega arith) ∙ ap (λ l. put l (suc at) us) (set-set xs at u v))
      ∙ put-put-same (set xs at v) (suc at) us vs (omega arith)

  put-put-after : (xs : List A) (a : ℕ) (us : List A) (b : ℕ) (vs : List A) → a + length us ≤ b → put (put xs a us) b vs ≡ put (put xs b vs) a us
  unfolding put
  put-put-after xs a us b [] h = refl
  put-put-after xs a us b (v ∷ vs) h =
      ap (λ l. put l (suc b) vs) (set-put-above xs a us b v h) ∙ put-put-after (set xs b v) a us (suc b) vs (omega arith)

  put_same : (xs : List A) (at : ℕ) (vs : List A) (d : A) → ((i : ℕ) → i < length vs → get_or vs i d ≡ get_or xs (at + i) d) → put xs at vs ≡ xs
  unfolding put
  put_same xs at [] d h = refl
  put_same xs at (v ∷ vs) d h =
      let e : set xs at v ≡ xs = ap (set xs at) (h 0 (omega arith) ∙ rw add-zero) ∙ set-get_or xs at d in
      ap (λ l. put l (suc at) vs) e ∙ put_same xs (suc at) vs d (λ i l. h (suc i) (omega arith) ∙ rw (add-suc, ← suc-add))

  -- what is there, put there
  pub put-region : (d : A) (xs : List A) (at n : ℕ) → put xs at (region d xs at n) ≡ xs
  put-region d xs at n = put_same xs at (region d xs at n) d (λ i l. get_or-region xs at n i d (rw length-region at l))

  -- a list put over the whole
  pub put_all : (d : A) (xs vs : List A) → length vs ≡ length xs → put xs 0 vs ≡ vs
  put_all d xs vs e =
      ext_get_or d _ vs (length-put xs 0 vs ∙ sym e) (λ i l.
      let l' : i < length xs = rw length-put at l in
      ap (λ k. get_or (put xs 0 vs) k d) (sym (zero-add i)) ∙ put-within xs 0 vs i d (omega arith) (omega arith))

  -- ---- the same by the size n of what was put, as callers have it
  module _ (xs : List A) (at : ℕ) (vs : List A) {n : ℕ} (e : length vs ≡ n) where
    -- a read outside, and a region outside
    pub put-else : (d : A) (c m j : ℕ) → Apart at n c m → j < m → get_or (put xs at vs) (c + j) d ≡ get_or xs (c + j) d
    put-else d c m j a l =
        ⊎_elim (λ h. put-above xs at vs (c + j) d (omega arith)) (λ h. put-below xs at vs (c + j) d (omega arith)) (apart-cases at n c m a)

    pub region-else : (d : A) (c m : ℕ) → Apart at n c m → region d (put xs at vs) c m ≡ region d xs c m
    unfolding region
    region-else d c m a = tab-ext _ _ m (λ i l. put-else d c m i a l)

    -- a region read back
    pub region-put : (d : A) → at + n ≤ length xs → region d (put xs at vs) at n ≡ vs
    region-put d h =
        ext_get_or d _ vs (length-region d _ at n ∙ sym e) (λ i l.
        let l' : i < n = rw length-region at l in
        get_or-region (put xs at vs) at n i d l' ∙ put-within xs at vs i d (omega arith) (omega arith))

    pub put-put : (us : List A) → length us ≡ n → put (put xs at us) at vs ≡ put xs at vs
    put-put us h = put-put-same xs at us vs (h ∙ sym e)

    pub put-apart : (c : ℕ) (us : List A) {m : ℕ} → length us ≡ m → Apart at n c m → put (put xs at vs) c us ≡ put (put xs c us) at vs
    put-apart c us {m} h a =
        ⊎_elim (λ l. put-put-after xs at vs c us (rw e l)) (λ l. sym (put-put-after xs c us at vs (rw h l))) (apart-cases at n c m a)
