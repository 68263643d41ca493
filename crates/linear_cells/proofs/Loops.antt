-- Laws of `iter` and `tab`, by which loops and vectors are defined, and how stretches of a slice are shown to be apart. Assumes nothing.
use mathlib.Core.Path.{◌≡◌, refl, ap}
use mathlib.Core.Logic.{◌⊎◌, inl, inr}
use Prim.Native.Nat.{ℕ, zero, suc, min, ◌-◌, ◌+◌, ◌≤◌, ◌<◌}
use native.Mathlib.Decide.{dec_le}
use native.Mathlib.Nat.{le_of_suc-le-suc, not-suc-le-zero}
use native.Mathlib.Numerals.{add-one}
use native.Mathlib.Omega.{arith}
use lib.ListN.{length, get_or, replicate}
use Rattle.linear_cells.specs.Iter.{iter}
use Rattle.linear_cells.specs.Region.{tab, Apart}

-- ---- apart

-- how `omega` shows that two stretches are apart: `omega (arith, apart)`
apart_by : (a n b m : ℕ) → Dec (a + n ≤ b) → min (a + n - b) (b + m - a) ≡ 0 → (a + n ≤ b) ⊎ (b + m ≤ a)
apart_by a n b m (yes l) h = inl l
apart_by a n b m (no f) h = inr (omega arith)

pub apart : (a n b m : ℕ) → min (a + n - b) (b + m - a) ≡ 0 → Apart a n b m
unfolding Apart
apart a n b m h = apart_by a n b m (dec_le (a + n) b) h

pub apart-cases : (a n b m : ℕ) → Apart a n b m → (a + n ≤ b) ⊎ (b + m ≤ a)
unfolding Apart
apart-cases a n b m h = h

pub apart_other : (a n b m : ℕ) → Apart a n b m → Apart b m a n
unfolding Apart
apart_other a n b m (inl l) = inr l
apart_other a n b m (inr l) = inl l

-- ---- iter

module _ {ℓ} {S : Type ℓ} where
  pub iter-none : (step : ℕ → S → S) (s : S) → iter step 0 s ≡ s
  unfolding iter
  iter-none step s = refl

  -- a loop's iteration
  pub iter-more : (step : ℕ → S → S) (i : ℕ) (s : S) → iter step (i + 1) s ≡ step i (iter step i s)
  unfolding iter
  iter-more step i s = rw (add-one, iter)

  -- what a step keeps, n steps keep
  pub iter-keeps : (P : S → Type 0) (step : ℕ → S → S) (n : ℕ) (s : S)
      → P s → ((i : ℕ) (t : S) → i < n → P t → P (step i t)) → P (iter step n s)
  unfolding iter
  iter-keeps P step zero s p more = p
  iter-keeps P step (suc n) s p more = more n (iter step n s) (omega arith) (iter-keeps P step n s p (λ i t l. more i t (omega arith)))

-- ---- tab

module _ {ℓ} {A : Type ℓ} where
  pub length-tab : (f : ℕ → A) (n : ℕ) → length (tab f n) ≡ n
  unfolding tab
  length-tab f zero = refl
  length-tab f (suc n) = ap suc (length-tab (λ i. f (suc i)) n)

  pub get_or-tab : (f : ℕ → A) (n i : ℕ) (d : A) → i < n → get_or (tab f n) i d ≡ f i
  unfolding tab
  get_or-tab f zero i d l = absurd (not-suc-le-zero l)
  get_or-tab f (suc n) zero d l = refl
  get_or-tab f (suc n) (suc i) d l = get_or-tab (λ i. f (suc i)) n i d (le_of_suc-le-suc l)

  pub tab-ext : (f g : ℕ → A) (n : ℕ) → ((i : ℕ) → i < n → f i ≡ g i) → tab f n ≡ tab g n
  unfolding tab
  tab-ext f g zero h = refl
  tab-ext f g (suc n) h = rw (h 0 (omega arith), tab-ext (λ i. f (suc i)) (λ i. g (suc i)) n (λ i l. h (suc i) (omega arith)))

  pub tab-replicate : (a : A) (n : ℕ) → tab (λ i. a) n ≡ replicate n a
  unfolding tab
  tab-replicate a zero = refl
  tab-replicate a (suc n) = rw (tab-replicate a n)
