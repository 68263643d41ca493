-- The iterations of the loops that sum and that scale, over lists. Assumes nothing.
use mathlib.Core.Path.{◌≡◌, sym, ap, ◌∙◌}
use mathlib.Core.List.{List}
use Prim.Native.Nat.{ℕ, ◌+◌, ◌≤◌, ◌<◌}
use native.Mathlib.Omega.{arith}
use lib.Ieee.{Float, nan}
use lib.ListN.{length, get_or}
use Rattle.float.specs.Double.{lit, max_of, ◌⊕◌}
use Rattle.root.specs.Root.{root_of}
use Rattle.complex.specs.declared.Complex.{Complex}
use Rattle.complex.specs.Complex.{czero, cnan, cscale}
use Rattle.linear_cells.specs.Iter.{iter}
use Rattle.linear_cells.specs.Region.{region}
use Rattle.linear_cells.specs.Cell.{get_c, set_c, region_c, put_c, re_of}
use Rattle.linear_cells.proofs.Loops.{iter-none, iter-more}
use Rattle.linear_cells.proofs.Regions.{get_or-region}
use Rattle.linear_cells.proofs.Cells.{put_c-region_c, get_or-region_c, length-region_c, put_c-else, put_c-else-real}
use Rattle.linear_cells.proofs.Over.{over, over_none, length_over, over-all, over-cell}
use Rattle.linear_hermitian.specs.Hermitian.{dot_step, dot_of, vector_norm, scaled}
use Rattle.linear_hermitian.specs.Work.{ScaleRoom, re_term}
use Rattle.linear_hermitian.proofs.Floats.{re-term}

-- ---- the real part of a sum of products, over lists

module _ (u v : List Complex) where
  unfoldable pub re_sum : ℕ → Float
  re_sum i = (iter (dot_step u v) i czero).re

  pub re-sum-none : lit 0 ≡ re_sum 0
  unfolding re_sum
  re-sum-none = ap re_of (sym (iter-none _ czero))

  pub re-sum-more : (i : ℕ) → re_sum (i + 1) ≡ re_sum i ⊕ re_term (get_or u i cnan) (get_or v i cnan)
  unfolding re_sum dot_step
  re-sum-more i = ap re_of (iter-more (dot_step u v) i czero) ∙ re-term (iter (dot_step u v) i czero) (get_or u i cnan) (get_or v i cnan)

  pub re-sum-all : {n : ℕ} → length u ≡ n → re_sum n ≡ (dot_of u v).re
  unfolding re_sum dot_of
  re-sum-all e = rw e

-- ---- the real part of a product

module _ (w : List Float) (a b n : ℕ) where
  unfoldable pub re_to : ℕ → Float
  re_to i = re_sum (region_c w a n) (region_c w b n) i

  pub re-none : lit 0 ≡ re_to 0
  unfolding re_to
  re-none = re-sum-none (region_c w a n) (region_c w b n)

  pub re-again : (i : ℕ) → i < n → {s r : Float} → s ≡ re_to i → r ≡ s ⊕ re_term (get_c w a n i) (get_c w b n i) → r ≡ re_to (i + 1)
  unfolding re_to
  re-again i l e₁ e₂ = e₂ ∙ rw (e₁, re-sum-more, get_or-region_c w a n i l, get_or-region_c w b n i l)

  pub re-done : {i : ℕ} {s : Float} → i ≤ n → n ≤ i → s ≡ re_to i → s ≡ (dot_of (region_c w a n) (region_c w b n)).re
  unfolding re_to
  re-done {i} l g e =
      let z : i ≡ n = omega arith in
      e ∙ rw z (re-sum-all (region_c w a n) (region_c w b n) (length-region_c w a n))

pub norm-all : (v : List Complex) {d m r : Float} → d ≡ (dot_of v v).re → m ≡ max_of d (lit 0) → r ≡ root_of m → r ≡ vector_norm v
unfolding vector_norm
norm-all v ed em er = er ∙ ap root_of (em ∙ ap (λ t. max_of t (lit 0)) ed)

-- ---- scale

module _ (w : List Float) (y x d n : ℕ) where
  scale_at : ℕ → Complex → Complex
  scale_at i z = cscale (get_or (region_c w x n) i cnan) (get_or (region nan w d n) i nan)

  unfoldable pub scale_to : ℕ → List Complex
  unfolding scale_at
  scale_to i = over scale_at cnan i (region_c w y n)

  pub scale-none : w ≡ put_c w y (scale_to 0)
  unfolding scale_to
  scale-none = rw (over_none, put_c-region_c)

  -- w₁ is the work slice before an iteration and w₂ after it
  pub scale-again : ScaleRoom (length w) d x y n → (i : ℕ) → i < n → {w₁ w₂ : List Float}
      → w₁ ≡ put_c w y (scale_to i) → w₂ ≡ set_c w₁ y n i (cscale (get_c w₁ x n i) (get_or w₁ (d + i) nan)) → w₂ ≡ put_c w y (scale_to (i + 1))
  unfolding scale_to scale_at
  scale-again p i l e₁ e₂ =
      let e : length (scale_to i) ≡ n = length_over _ cnan i (region_c w y n) ∙ length-region_c w y n in
      e₂ ∙ rw (e₁, put_c-else w y (scale_to i) e x n i p.y-x l, put_c-else-real w y (scale_to i) e d n i p.y-diagonal l, ← get_or-region_c w x n i l, ← get_or-region w d n i nan l)
      (over-cell scale_at w y (region_c w y n) (length-region_c w y n) p.y-in i l)

  pub scale-done : {w₁ : List Float} {i : ℕ} → i ≤ n → n ≤ i → w₁ ≡ put_c w y (scale_to i) → w₁ ≡ put_c w y (scaled (region nan w d n) (region_c w x n))
  unfolding scale_to scaled scale_at
  scale-done {w₁} {i} l g e =
      let z : i ≡ n = omega arith in
      e ∙ rw z (ap (put_c w y) (over-all scale_at cnan (region_c w y n) (length-region_c w y n) ∙ rw length-region_c))
