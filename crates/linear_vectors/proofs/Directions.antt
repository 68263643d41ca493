-- The iterations of the loops `advance` and `direct`. Assumes nothing.
use mathlib.Core.Path.{◌≡◌, sym, ap, ◌∙◌}
use mathlib.Core.List.{List}
use Prim.Native.Nat.{ℕ, ◌+◌, ◌*◌, ◌≤◌, ◌<◌}
use native.Mathlib.Nat.{le_refl}
use native.Mathlib.Omega.{arith}
use lib.Ieee.{Float, nan}
use lib.ListN.{length, get_or}
use Rattle.complex.specs.declared.Complex.{Complex}
use Rattle.complex.specs.Complex.{cnan, cscale}
use Rattle.linear_cells.specs.Region.{region, Apart}
use Rattle.linear_cells.specs.Cell.{get_c, set_c, region_c, put_c}
use Rattle.linear_cells.proofs.Loops.{apart_other}
use Rattle.linear_cells.proofs.Regions.{get_or-region}
use Rattle.linear_cells.proofs.Cells.{length-put_c, get_or-region_c, length-region_c, put_c-else, put_c-else-real, put_c-apart}
use Rattle.linear_hermitian.specs.Hermitian.{scaled}
use Rattle.linear_hermitian.specs.Work.{PairRoom}
use Rattle.linear_hermitian.proofs.Product.{length-scaled}
use Rattle.linear_vectors.specs.Vectors.{zip_of, add_scaled}
use Rattle.linear_vectors.specs.Work.{DirectRoom, next_c, direct_c}
use Rattle.linear_vectors.proofs.Zip.{get_or-scaled, zip_to, length-zip_to, zip-none, zip-todo, zip-cell, zip_to-all}

-- ---- advance

module _ (w : List Float) (y x n : ℕ) (alpha : Float) where
  unfoldable pub advance_to : ℕ → List Complex
  advance_to i = zip_to w y n (add_scaled alpha) (region_c w x n) i

  pub advance-none : w ≡ put_c w y (advance_to 0)
  unfolding advance_to
  advance-none = zip-none w y n (add_scaled alpha) (region_c w x n)

  pub advance-again : PairRoom (length w) x y (2 * n) → (i : ℕ) → i < n → {w₁ w₂ : List Float} → w₁ ≡ put_c w y (advance_to i)
      → w₂ ≡ set_c w₁ y n i (add_scaled alpha (get_c w₁ y n i) (get_c w₁ x n i)) → w₂ ≡ put_c w y (advance_to (i + 1))
  unfolding advance_to
  advance-again ok i m {w₁} e₁ e₂ =
      let u : List Complex = region_c w x n in
      let k : length (advance_to i) ≡ n = length-zip_to w y n (add_scaled alpha) u i in
      let ey : get_c w₁ y n i ≡ get_c w y n i = ap (λ v. get_c v y n i) e₁ ∙ zip-todo w y n (add_scaled alpha) u w ok.y-in i i (le_refl i) m in
      let ex : get_c w₁ x n i ≡ get_or u i cnan =
      ap (λ v. get_c v x n i) e₁ ∙ put_c-else w y (advance_to i) k x n i ok.y-x m ∙ sym (get_or-region_c w x n i m) in
      e₂ ∙ rw (ey, ex, e₁) (zip-cell w y n (add_scaled alpha) u w ok.y-in i m)

  pub advance-done : {w₁ : List Float} {i : ℕ} → i ≤ n → n ≤ i → w₁ ≡ put_c w y (advance_to i) → w₁ ≡ put_c w y (zip_of (add_scaled alpha) (region_c w y n) (region_c w x n))
  unfolding advance_to
  advance-done {w₁} {i} g h e = let z : i ≡ n = omega arith in e ∙ rw (z, zip_to-all)

-- ---- direct

-- the next direction, from the last one and the preconditioned residual
unfoldable pub toward : Float → Complex → Complex → Complex
toward beta y z = add_scaled beta z y

module _ (w : List Float) (x p r inverse n : ℕ) (alpha beta : Float) where
  abbrev pub new_x : ℕ → List Complex
  new_x i = zip_to w x n (add_scaled alpha) (region_c w p n) i

  abbrev pub ahead : List Complex
  ahead = scaled (region nan w inverse n) (region_c w r n)

  abbrev pub new_p : ℕ → List Complex
  new_p i = zip_to w p n (toward beta) ahead i

  unfoldable pub direct_to : ℕ → List Float
  direct_to i = put_c (put_c w x (new_x i)) p (new_p i)

  pub direct-none : w ≡ direct_to 0
  unfolding direct_to
  direct-none = zip-none w p n (toward beta) ahead ∙ ap (λ t. put_c t p (new_p 0)) (zip-none w x n (add_scaled alpha) (region_c w p n))

  pub direct-again : DirectRoom (length w) x p r inverse n → (i : ℕ) → i < n → {w₁ w₂ : List Float} → w₁ ≡ direct_to i → w₂ ≡ direct_c w₁ x p r inverse n alpha beta i → w₂ ≡ direct_to (i + 1)
  unfolding direct_to direct_c next_c
  direct-again ok i m {w₁} {w₂} e₁ e₂ =
      let u : List Complex = region_c w p n in
      let kx : (i : ℕ) → length (new_x i) ≡ n = length-zip_to w x n (add_scaled alpha) u in
      let kp : (i : ℕ) → length (new_p i) ≡ n = length-zip_to w p n (toward beta) ahead in
      let v : List Float = put_c w x (new_x i) in
      let p-x : Apart p (2 * n) x (2 * n) = apart_other x (2 * n) p (2 * n) ok.x-p in
      let ep : get_c w₁ p n i ≡ get_c w p n i = ap (λ t. get_c t p n i) e₁ ∙ zip-todo w p n (toward beta) ahead v (rw length-put_c ok.p-in) i i (le_refl i) m in
      let ep' : get_c w p n i ≡ get_or u i cnan = sym (get_or-region_c w p n i m) in
      let ex : get_c w₁ x n i ≡ get_c w x n i =
      ap (λ t. get_c t x n i) e₁ ∙ put_c-else v p (new_p i) (kp i) x n i p-x m ∙ zip-todo w x n (add_scaled alpha) u w ok.x-in i i (le_refl i) m in
      let er : get_c w₁ r n i ≡ get_or (region_c w r n) i cnan =
      ap (λ t. get_c t r n i) e₁
      ∙ put_c-else v p (new_p i) (kp i) r n i ok.p-r m
      ∙ put_c-else w x (new_x i) (kx i) r n i ok.x-r m
      ∙ sym (get_or-region_c w r n i m) in
      let ei : get_or w₁ (inverse + i) nan ≡ get_or (region nan w inverse n) i nan =
      ap (λ t. get_or t (inverse + i) nan) e₁
      ∙ put_c-else-real v p (new_p i) (kp i) inverse n i ok.p-inverse m
      ∙ put_c-else-real w x (new_x i) (kx i) inverse n i ok.x-inverse m
      ∙ sym (get_or-region w inverse n i nan m) in
      let ez : cscale (get_c w₁ r n i) (get_or w₁ (inverse + i) nan) ≡ get_or ahead i cnan =
      rw (er, ei) (sym (get_or-scaled (region nan w inverse n) (region_c w r n) (length-region_c w r n) i m)) in
      -- the store to x, under the direction, and then the store to the direction
      let f₁ : set_c w₁ x n i (add_scaled alpha (get_c w₁ x n i) (get_c w₁ p n i)) ≡ put_c (put_c w x (new_x (i + 1))) p (new_p i) =
      rw (ex, ep, ep', e₁, put_c-apart w x (new_x i) (kx i) p (new_p i) (kp i) ok.x-p)
      (zip-cell w x n (add_scaled alpha) u (put_c w p (new_p i)) (rw length-put_c ok.x-in) i m
      ∙ put_c-apart w p (new_p i) (kp i) x (new_x (i + 1)) (kx (i + 1)) p-x) in
      e₂ ∙ rw (f₁, ez, ep) (stored (put_c w x (new_x (i + 1))) (rw length-put_c ok.p-in) i m)
    where
      stored : (v : List Float) → p + 2 * n ≤ length v → (i : ℕ) → i < n
          → set_c (put_c v p (new_p i)) p n i (add_scaled beta (get_or ahead i cnan) (get_c w p n i)) ≡ put_c v p (new_p (i + 1))
      stored v h i m = unfold toward in zip-cell w p n (toward beta) ahead v h i m

  pub direct-done : {w₁ : List Float} {i : ℕ} → i ≤ n → n ≤ i → w₁ ≡ direct_to i
      → w₁ ≡ put_c (put_c w x (zip_of (add_scaled alpha) (region_c w x n) (region_c w p n))) p (zip_of (add_scaled beta) ahead (region_c w p n))
  unfolding direct_to
  direct-done {w₁} {i} g h e = let z : i ≡ n = omega arith in e ∙ rw (z, zip_to-all, zip_to-all, toward-all)
    where
      toward-all : zip_of (toward beta) (region_c w p n) ahead ≡ zip_of (add_scaled beta) ahead (region_c w p n)
      toward-all = unfold zip_of toward in rw (length-region_c, length-scaled, length-region_c)
