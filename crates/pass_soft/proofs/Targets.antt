-- The loops that store the targets. Assumes nothing.
use mathlib.Core.Path.{◌≡◌, refl, sym, ap, ◌∙◌}
use mathlib.Core.List.{List}
use Prim.Native.Nat.{ℕ, ◌+◌, ◌*◌, ◌≤◌, ◌<◌}
use lib.Ieee.{Float, nan}
use lib.ListN.{length, get_or, replicate}
use Rattle.complex.specs.declared.Complex.{Complex}
use Rattle.linear_cells.specs.Region.{region}
use Rattle.linear_cells.specs.Cell.{set_c, put_c}
use Rattle.linear_cells.proofs.Loops.{tab-ext, tab-replicate}
use Rattle.linear_cells.proofs.Regions.{get_or-region, length-region}
use Rattle.linear_cells.proofs.Each.{each_to, each_none, each-real, each_again, each-done}
use Rattle.complex.specs.Guidance.{fourfold}
use Rattle.pass_soft.specs.Soft.{guided_targets, aligned_targets}
use Rattle.pass_soft.specs.Work.{GuideRoom}

-- ---- guide

module _ (w : List Float) (guidance target n : ℕ) where
  at_angle : ℕ → Complex → Complex
  at_angle i z = fourfold (get_or w (guidance + i) nan)

  unfoldable pub guide_to : ℕ → List Complex
  unfolding at_angle
  guide_to i = each_to at_angle w target n i

  pub guide-none : w ≡ put_c w target (guide_to 0)
  unfolding guide_to
  guide-none = each_none at_angle w target n

  pub guide-again : GuideRoom (length w) guidance target n → (i : ℕ) → i < n → {w₁ w₂ : List Float} → w₁ ≡ put_c w target (guide_to i)
      → w₂ ≡ set_c w₁ target n i (fourfold (get_or w₁ (guidance + i) nan)) → w₂ ≡ put_c w target (guide_to (i + 1))
  unfolding guide_to at_angle
  guide-again ok i l {w₁} e₁ e₂ =
      each_again at_angle w target n ok.target-in i l e₁ e₂ (rw (each-real at_angle w target n guidance n i i ok.target-guidance l e₁))

  pub guide-done : {w₁ : List Float} {i : ℕ} → i ≤ n → n ≤ i → w₁ ≡ put_c w target (guide_to i) → w₁ ≡ put_c w target (guided_targets (region nan w guidance n))
  unfolding guide_to guided_targets at_angle
  guide-done l g e =
      each-done at_angle w target n l g e ∙ ap (put_c w target) (sym (rw length-region (tab-ext _ _ n (λ i h. rw (get_or-region w guidance n i nan h)))))

-- ---- align

module _ (w : List Float) (target n : ℕ) (z : Complex) where
  unfoldable pub repeat_to : ℕ → List Complex
  repeat_to i = each_to (λ j y. z) w target n i

  pub repeat-none : w ≡ put_c w target (repeat_to 0)
  unfolding repeat_to
  repeat-none = each_none (λ j y. z) w target n

  pub repeat-again : target + 2 * n ≤ length w → (i : ℕ) → i < n → {w₁ w₂ : List Float} → w₁ ≡ put_c w target (repeat_to i)
      → w₂ ≡ set_c w₁ target n i z → w₂ ≡ put_c w target (repeat_to (i + 1))
  unfolding repeat_to
  repeat-again h i l e₁ e₂ = each_again (λ j y. z) w target n h i l e₁ e₂ refl

  pub repeat-done : {w₁ : List Float} {i : ℕ} → i ≤ n → n ≤ i → w₁ ≡ put_c w target (repeat_to i) → w₁ ≡ put_c w target (replicate n z)
  unfolding repeat_to
  repeat-done l g e = each-done (λ j y. z) w target n l g e ∙ ap (put_c w target) (tab-replicate z n)

pub align-all : (w : List Float) (target n : ℕ) (angle : Float) {z : Complex} {w₁ : List Float} → z ≡ fourfold angle → w₁ ≡ put_c w target (replicate n z)
    → w₁ ≡ put_c w target (aligned_targets angle n)
unfolding aligned_targets
align-all w target n angle ez e = e ∙ rw ez
