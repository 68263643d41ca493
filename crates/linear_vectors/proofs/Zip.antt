-- A loop over two vectors that changes one of them: iteration i sets y i to f (y i) (x i). Assumes nothing.
use mathlib.Core.Path.{◌≡◌, ap, ◌∙◌}
use mathlib.Core.List.{List}
use Prim.Native.Nat.{ℕ, ◌+◌, ◌*◌, ◌≤◌, ◌<◌}
use native.Mathlib.Omega.{arith}
use lib.Ieee.{Float, nan}
use lib.ListN.{length, get_or}
use Rattle.complex.specs.declared.Complex.{Complex}
use Rattle.complex.specs.Complex.{cnan, cscale}
use Rattle.linear_cells.specs.Cell.{get_c, set_c, region_c, put_c}
use Rattle.linear_cells.proofs.Loops.{length-tab, get_or-tab}
use Rattle.linear_cells.proofs.Cells.{put_c-region_c, get_or-region_c, length-region_c, put_c-at}
use Rattle.linear_cells.proofs.Over.{over, over_none, length_over, over-all, over-todo, over_done, over-cell}
use Rattle.linear_hermitian.specs.Hermitian.{scaled}
use Rattle.linear_vectors.specs.Vectors.{zip_of}

pub length-zip_of : (f : Complex → Complex → Complex) (y x : List Complex) → length (zip_of f y x) ≡ length y
unfolding zip_of
length-zip_of f y x = length-tab _ (length y)

pub get_or-zip_of : (f : Complex → Complex → Complex) (y x : List Complex) {n : ℕ} → length y ≡ n → (i : ℕ) → i < n → get_or (zip_of f y x) i cnan ≡ f (get_or y i cnan) (get_or x i cnan)
unfolding zip_of
get_or-zip_of f y x e i l = get_or-tab _ (length y) i cnan (rw e l)

pub get_or-scaled : (d : List Float) (x : List Complex) {n : ℕ} → length x ≡ n → (i : ℕ) → i < n → get_or (scaled d x) i cnan ≡ cscale (get_or x i cnan) (get_or d i nan)
unfolding scaled
get_or-scaled d x e i l = get_or-tab _ (length x) i cnan (rw e l)

-- ---- y's region after i iterations, where u is the other vector
module _ (w : List Float) (y n : ℕ) (f : Complex → Complex → Complex) (u : List Complex) where
  zip_at : ℕ → Complex → Complex
  zip_at i z = f z (get_or u i cnan)

  unfoldable pub zip_to : ℕ → List Complex
  unfolding zip_at
  zip_to i = over zip_at cnan i (region_c w y n)

  pub length-zip_to : (i : ℕ) → length (zip_to i) ≡ n
  unfolding zip_to
  length-zip_to i = length_over _ cnan i (region_c w y n) ∙ length-region_c w y n

  pub zip-none : w ≡ put_c w y (zip_to 0)
  unfolding zip_to
  zip-none = rw (over_none, put_c-region_c)

  pub zip_to-none : zip_to 0 ≡ region_c w y n
  unfolding zip_to
  zip_to-none = over_none _ cnan (region_c w y n)

  -- after i iterations: what is read at j, where it is yet to be changed, and where it is changed. Other regions of the slice v may differ
  pub zip-todo : (v : List Float) → y + 2 * n ≤ length v → (i j : ℕ) → i ≤ j → j < n → get_c (put_c v y (zip_to i)) y n j ≡ get_c w y n j
  unfolding zip_to
  zip-todo v h i j g l = put_c-at v y (zip_to i) (length-zip_to i) j l h ∙ over-todo zip_at cnan i (region_c w y n) j g ∙ get_or-region_c w y n j l

  pub zip-done : (v : List Float) → y + 2 * n ≤ length v → (i j : ℕ) → j < i → i ≤ n → get_c (put_c v y (zip_to i)) y n j ≡ f (get_c w y n j) (get_or u j cnan)
  unfolding zip_to zip_at
  zip-done v h i j g l =
      put_c-at v y (zip_to i) (length-zip_to i) j (omega arith) h
      ∙ over_done zip_at cnan i (region_c w y n) j g (rw length-region_c l)
      ∙ ap (λ z. f z (get_or u j cnan)) (get_or-region_c w y n j (omega arith))

  -- iteration i stores
  pub zip-cell : (v : List Float) → y + 2 * n ≤ length v → (i : ℕ) → i < n → set_c (put_c v y (zip_to i)) y n i (f (get_c w y n i) (get_or u i cnan)) ≡ put_c v y (zip_to (i + 1))
  unfolding zip_to zip_at
  zip-cell v h i l = rw (← get_or-region_c w y n i l) (over-cell zip_at v y (region_c w y n) (length-region_c w y n) h i l)

  pub zip_to-all : zip_to n ≡ zip_of f (region_c w y n) u
  unfolding zip_to zip_of zip_at
  zip_to-all = over-all zip_at cnan (region_c w y n) (length-region_c w y n) ∙ rw length-region_c
