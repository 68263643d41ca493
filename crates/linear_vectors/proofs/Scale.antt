-- The iterations of the loop that scales a vector. Assumes nothing.
use mathlib.Core.Path.{◌≡◌, ap, ◌∙◌}
use mathlib.Core.List.{List}
use Prim.Native.Nat.{ℕ, ◌+◌, ◌*◌, ◌≤◌, ◌<◌}
use native.Mathlib.Omega.{arith}
use lib.Ieee.{Float}
use lib.ListN.{length}
use Rattle.complex.specs.declared.Complex.{Complex}
use Rattle.complex.specs.Complex.{cnan, cscale}
use Rattle.linear_cells.specs.Cell.{get_c, set_c, region_c, put_c}
use Rattle.linear_cells.proofs.Cells.{put_c-region_c, length-region_c}
use Rattle.linear_cells.proofs.Over.{over, over_none, over-all, over-read, over-cell}
use Rattle.linear_vectors.specs.Vectors.{scaled_by}

module _ (w : List Float) (x n : ℕ) (k : Float) where
  by_at : ℕ → Complex → Complex
  by_at i z = cscale z k

  unfoldable pub scale_to : ℕ → List Complex
  unfolding by_at
  scale_to i = over by_at cnan i (region_c w x n)

  pub scale-none : w ≡ put_c w x (scale_to 0)
  unfolding scale_to
  scale-none = rw (over_none, put_c-region_c)

  pub scale-again : x + 2 * n ≤ length w → (i : ℕ) → i < n → {w₁ w₂ : List Float} → w₁ ≡ put_c w x (scale_to i)
      → w₂ ≡ set_c w₁ x n i (cscale (get_c w₁ x n i) k) → w₂ ≡ put_c w x (scale_to (i + 1))
  unfolding scale_to by_at
  scale-again h i l e₁ e₂ =
      let v : List Complex = region_c w x n in
      let kn : length v ≡ n = length-region_c w x n in
      e₂ ∙ rw (e₁, over-read by_at w x v kn h i l) (over-cell by_at w x v kn h i l)

  pub scale-done : {w₁ : List Float} {i : ℕ} → i ≤ n → n ≤ i → w₁ ≡ put_c w x (scale_to i) → w₁ ≡ put_c w x (scaled_by k (region_c w x n))
  unfolding scale_to scaled_by by_at
  scale-done {w₁} {i} l g e =
      let z : i ≡ n = omega arith in
      e ∙ rw z (ap (put_c w x) (over-all by_at cnan (region_c w x n) (length-region_c w x n) ∙ rw length-region_c))
