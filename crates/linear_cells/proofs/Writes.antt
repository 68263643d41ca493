-- The iterations of the loops that store into a region. Assumes nothing.
use mathlib.Core.Path.{◌≡◌, ap, ◌∙◌}
use mathlib.Core.List.{List}
use Prim.Native.Nat.{ℕ, ◌+◌, ◌≤◌, ◌<◌}
use native.Mathlib.Omega.{arith}
use lib.ListN.{length, set}
use Rattle.linear_cells.specs.Region.{tab, region, put}
use Rattle.linear_cells.proofs.Regions.{length-region, put-region}
use Rattle.linear_cells.proofs.Over.{over, over_none, length_over, over-all, over-region}

-- ---- f i is stored at b + i, for each i below n

module _ {ℓ} {A : Type ℓ} (d : A) (w : List A) (b n : ℕ) (f : ℕ → A) where
  -- the region after i iterations
  unfoldable pub write_to : ℕ → List A
  write_to i = over (λ j z. f j) d i (region d w b n)

  pub length-write_to : (i : ℕ) → length (write_to i) ≡ n
  unfolding write_to
  length-write_to i = length_over _ d i (region d w b n) ∙ length-region d w b n

  pub write-none : w ≡ put w b (write_to 0)
  unfolding write_to
  write-none = rw (over_none, put-region)

  pub write_again : b + n ≤ length w → (i : ℕ) → i < n → {w₁ w₂ : List A} → w₁ ≡ put w b (write_to i) → w₂ ≡ set w₁ (b + i) (f i) → w₂ ≡ put w b (write_to (i + 1))
  unfolding write_to
  write_again h i l e₁ e₂ = e₂ ∙ rw e₁ (over-region (λ j z. f j) d w b (region d w b n) (length-region d w b n) h i l)

  pub write_done : {w₁ : List A} {i : ℕ} → i ≤ n → n ≤ i → w₁ ≡ put w b (write_to i) → w₁ ≡ put w b (tab f n)
  unfolding write_to
  write_done {w₁} {i} l g e =
      let z : i ≡ n = omega arith in
      e ∙ rw z (ap (put w b) (over-all (λ j z. f j) d (region d w b n) (length-region d w b n)))
