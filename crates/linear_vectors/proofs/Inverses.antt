-- The iterations of the loop that inverts a diagonal. Assumes nothing.
use mathlib.Core.Path.{◌≡◌, sym, ap, ◌∙◌}
use mathlib.Core.List.{List}
use Prim.Native.Nat.{ℕ, ◌+◌, ◌≤◌, ◌<◌}
use native.Mathlib.Omega.{arith}
use lib.Ieee.{Float, nan}
use lib.ListN.{length, get_or, set}
use Rattle.float.specs.Double.{recip_of}
use Rattle.linear_cells.specs.Region.{region, put}
use Rattle.linear_cells.proofs.Loops.{length-tab}
use Rattle.linear_cells.proofs.Regions.{length-region, get_or-region, put-region, put-else}
use Rattle.linear_cells.proofs.Over.{over, over_none, length_over, over-all, over-region}
use Rattle.linear_hermitian.specs.Work.{PairRoom}
use Rattle.linear_vectors.specs.Vectors.{recips_of}

module _ (w : List Float) (y d n : ℕ) where
  recip_at : ℕ → Float → Float
  recip_at i z = recip_of (get_or (region nan w d n) i nan)

  unfoldable pub invert_to : ℕ → List Float
  unfolding recip_at
  invert_to i = over recip_at nan i (region nan w y n)

  pub invert-none : w ≡ put w y (invert_to 0)
  unfolding invert_to
  invert-none = rw (over_none, put-region)

  pub invert-again : PairRoom (length w) d y n → (i : ℕ) → i < n → {w₁ w₂ : List Float} → w₁ ≡ put w y (invert_to i)
      → w₂ ≡ set w₁ (y + i) (recip_of (get_or w₁ (d + i) nan)) → w₂ ≡ put w y (invert_to (i + 1))
  unfolding invert_to recip_at
  invert-again p i l {w₁} e₁ e₂ =
      let e : length (invert_to i) ≡ n = length_over _ nan i (region nan w y n) ∙ length-region nan w y n in
      let r : get_or w₁ (d + i) nan ≡ get_or (region nan w d n) i nan =
      ap (λ t. get_or t (d + i) nan) e₁ ∙ put-else w y (invert_to i) e nan d n i p.y-x l ∙ sym (get_or-region w d n i nan l) in
      e₂ ∙ rw (r, e₁) (over-region recip_at nan w y (region nan w y n) (length-region nan w y n) p.y-in i l)

  pub invert-done : {w₁ : List Float} {i : ℕ} → i ≤ n → n ≤ i → w₁ ≡ put w y (invert_to i) → w₁ ≡ put w y (recips_of (region nan w d n))
  unfolding invert_to recips_of recip_at
  invert-done {w₁} {i} l g e =
      let z : i ≡ n = omega arith in
      e ∙ rw z (ap (put w y) (over-all recip_at nan (region nan w y n) (length-region nan w y n) ∙ rw length-region))

pub length-recips_of : (d : List Float) → length (recips_of d) ≡ length d
unfolding recips_of
length-recips_of d = length-tab _ (length d)
