-- A loop over a region whose iteration i sets element i to f i of what stood there: the region after i iterations, what is read then, and the end.
-- One law for a complex vector and one for reals. Assumes nothing.
use mathlib.Core.Path.{◌≡◌, ap, ◌∙◌}
use mathlib.Core.List.{List}
use Prim.Native.Nat.{ℕ, ◌+◌, ◌*◌, ◌≤◌, ◌<◌}
use native.Mathlib.Nat.{le_refl}
use native.Mathlib.Omega.{arith}
use lib.Ieee.{Float, nan}
use lib.ListN.{length, get_or, set}
use Rattle.complex.specs.declared.Complex.{Complex}
use Rattle.complex.specs.Complex.{cnan}
use Rattle.linear_cells.specs.Region.{tab, region, put, Apart}
use Rattle.linear_cells.specs.Cell.{get_c, set_c, region_c, put_c}
use Rattle.linear_cells.proofs.Regions.{length-region, get_or-region, put-region, put-within, put-else}
use Rattle.linear_cells.proofs.Cells.{put_c-region_c, get_or-region_c, length-region_c, put_c-else, put_c-else-real}
use Rattle.linear_cells.proofs.Over.{over, over_none, over-todo, length_over, over-all, over-region, over-read, over-cell}

module _ (f : ℕ → Complex → Complex) (w : List Float) (y n : ℕ) where
  unfoldable pub each_to : ℕ → List Complex
  each_to i = over f cnan i (region_c w y n)

  pub length-each_to : (i : ℕ) → length (each_to i) ≡ n
  unfolding each_to
  length-each_to i = length_over f cnan i (region_c w y n) ∙ length-region_c w y n

  pub each_none : w ≡ put_c w y (each_to 0)
  unfolding each_to
  each_none = rw (over_none, put_c-region_c)

  -- what is read before iteration i: the cell itself, a cell and a real of another region
  pub each-own : y + 2 * n ≤ length w → (i : ℕ) → i < n → {w₁ : List Float} → w₁ ≡ put_c w y (each_to i) → get_c w₁ y n i ≡ get_c w y n i
  unfolding each_to
  each-own h i l e = ap (λ (t : List Float). get_c t y n i) e ∙ over-read f w y (region_c w y n) (length-region_c w y n) h i l ∙ get_or-region_c w y n i l

  pub each-other : (c m j i : ℕ) → Apart y (2 * n) c (2 * m) → j < m → {w₁ : List Float} → w₁ ≡ put_c w y (each_to i) → get_c w₁ c m j ≡ get_c w c m j
  each-other c m j i a l e = ap (λ (t : List Float). get_c t c m j) e ∙ put_c-else w y (each_to i) (length-each_to i) c m j a l

  pub each-real : (c m j i : ℕ) → Apart y (2 * n) c m → j < m → {w₁ : List Float} → w₁ ≡ put_c w y (each_to i) → get_or w₁ (c + j) nan ≡ get_or w (c + j) nan
  each-real c m j i a l e = ap (λ (t : List Float). get_or t (c + j) nan) e ∙ put_c-else-real w y (each_to i) (length-each_to i) c m j a l

  -- iteration i
  pub each_again : y + 2 * n ≤ length w → (i : ℕ) → i < n → {w₁ w₂ : List Float} {z : Complex} → w₁ ≡ put_c w y (each_to i) → w₂ ≡ set_c w₁ y n i z → z ≡ f i (get_c w y n i) → w₂ ≡ put_c w y (each_to (i + 1))
  unfolding each_to
  each_again h i l e₁ e₂ ez = e₂ ∙ rw (e₁, ez, ← get_or-region_c w y n i l) (over-cell f w y (region_c w y n) (length-region_c w y n) h i l)

  pub each-done : {w₁ : List Float} {i : ℕ} → i ≤ n → n ≤ i → w₁ ≡ put_c w y (each_to i) → w₁ ≡ put_c w y (tab (λ i. f i (get_or (region_c w y n) i cnan)) n)
  unfolding each_to
  each-done {w₁} {i} l g e = let z : i ≡ n = omega arith in e ∙ rw z (ap (put_c w y) (over-all f cnan (region_c w y n) (length-region_c w y n)))

-- the same over reals
module _ (f : ℕ → Float → Float) (w : List Float) (y n : ℕ) where
  unfoldable pub real_to : ℕ → List Float
  real_to i = over f nan i (region nan w y n)

  pub length-real_to : (i : ℕ) → length (real_to i) ≡ n
  unfolding real_to
  length-real_to i = length_over f nan i (region nan w y n) ∙ length-region nan w y n

  pub real-none : w ≡ put w y (real_to 0)
  unfolding real_to
  real-none = rw (over_none, put-region)

  pub real-own : y + n ≤ length w → (i : ℕ) → i < n → {w₁ : List Float} → w₁ ≡ put w y (real_to i) → get_or w₁ (y + i) nan ≡ get_or w (y + i) nan
  unfolding real_to
  real-own h i l e =
      ap (λ (t : List Float). get_or t (y + i) nan) e ∙ put-within w y (real_to i) i nan (omega (arith, length_over f nan i (region nan w y n), length-region nan w y n)) (omega arith)
      ∙ over-todo f nan i (region nan w y n) i (le_refl i) ∙ get_or-region w y n i nan l

  pub real-other : (c m j i : ℕ) → Apart y n c m → j < m → {w₁ : List Float} → w₁ ≡ put w y (real_to i) → get_or w₁ (c + j) nan ≡ get_or w (c + j) nan
  real-other c m j i a l e = ap (λ (t : List Float). get_or t (c + j) nan) e ∙ put-else w y (real_to i) (length-real_to i) nan c m j a l

  pub real-again : y + n ≤ length w → (i : ℕ) → i < n → {w₁ w₂ : List Float} {z : Float} → w₁ ≡ put w y (real_to i) → w₂ ≡ set w₁ (y + i) z → z ≡ f i (get_or w (y + i) nan) → w₂ ≡ put w y (real_to (i + 1))
  unfolding real_to
  real-again h i l {w₁} e₁ e₂ ez =
      let own : get_or w₁ (y + i) nan ≡ get_or w (y + i) nan = real-own h i l e₁ in
      e₂ ∙ rw (ez, ← own, e₁) (over-region f nan w y (region nan w y n) (length-region nan w y n) h i l)

  pub real-done : {w₁ : List Float} {i : ℕ} → i ≤ n → n ≤ i → w₁ ≡ put w y (real_to i) → w₁ ≡ put w y (tab (λ i. f i (get_or (region nan w y n) i nan)) n)
  unfolding real_to
  real-done {w₁} {i} l g e = let z : i ≡ n = omega arith in e ∙ rw z (ap (put w y) (over-all f nan (region nan w y n) (length-region nan w y n)))
