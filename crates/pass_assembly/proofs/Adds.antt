-- One value added in a region, one at each of three places, and a triangle's part added to a matrix. Assumes nothing.
use Prim.Native.Nat.{ℕ, ◌+◌, ◌*◌, ◌≤◌, ◌<◌}
use native.Mathlib.Omega.{arith}
use mathlib.Core.Path.{◌≡◌, refl, sym, ap, ◌∙◌}
use mathlib.Core.Bool.{Bool, true, false, cond}
use mathlib.Core.List.{List}
use lib.ListN.{length, length-set, get_or, set}
use lib.Ieee.{Float, nan}
use Rattle.float.specs.Double.{◌⊕◌}
use Rattle.complex.specs.declared.Complex.{Complex}
use Rattle.complex.specs.Complex.{cnan, cadd}
use Rattle.pass_terms.specs.declared.Corners.{Corners}
use Rattle.pass_terms.specs.declared.Sides.{Sides}
use Rattle.pass_terms.specs.declared.Part.{Part}
use Rattle.pass_terms.specs.Terms.{is_plain}
use Rattle.linear_cells.specs.Region.{region, put}
use Rattle.linear_cells.specs.Cell.{get_c, set_c, region_c, put_c}
use Rattle.linear_cells.proofs.Loops.{apart}
use Rattle.linear_cells.proofs.Regions.{length-region, get_or-region, put-region, set-put, region-put, put-put}
use Rattle.linear_cells.proofs.Cells.{length-region_c, get_or-region_c, put_c-region_c, put_c-set, region_c-put_c, put_c-put_c, region_c-put-else}
use Rattle.linear_hermitian.specs.declared.Hermitian.{Hermitian}
use Rattle.pass_assembly.specs.declared.Triple.{Triple}
use Rattle.pass_assembly.specs.Assembly.{thrice}
use Rattle.pass_assembly.specs.Work.{MatrixIn, add_in, corners_added, sides_added, correction_added, part_added}

-- ---- how many values there are

pub length-corners_added : (c : Triple) (d : Corners) (v : List Float) → length (corners_added c d v) ≡ length v
unfolding corners_added
length-corners_added c d v = simp length-set

pub length-sides_added : (s : Triple) (z : Sides) (v : List Complex) → length (sides_added s z v) ≡ length v
unfolding sides_added
length-sides_added s z v = simp length-set

pub length-correction_added : (h : Float) (c : Triple) (x : Float) (v : List Float) → length (correction_added h c x v) ≡ length v
unfolding correction_added
length-correction_added h c x v = go (is_plain h)
  where
    go : (b : Bool) → length (cond b v (corners_added c (thrice x) v)) ≡ length v
    go true = refl
    go false = length-corners_added c (thrice x) v

-- ---- in the region of n values from b on

module _ (w : List Float) (b n : ℕ) where
  pub real-added : (i : ℕ) (x : Float) → i < n → {w₁ : List Float} → w₁ ≡ set w (b + i) (get_or w (b + i) nan ⊕ x) → w₁ ≡ put w b (add_in ◌⊕◌ nan (region nan w b n) i x)
  real-added i x l e =
      e
      ∙ ap (λ t. set t (b + i) (get_or w (b + i) nan ⊕ x)) (sym (put-region nan w b n))
      ∙ set-put w b (region nan w b n) i (get_or w (b + i) nan ⊕ x) (rw length-region l)
      ∙ ap (λ z. put w b (set (region nan w b n) i (z ⊕ x))) (sym (get_or-region w b n i nan l))

  pub cell-added : (i : ℕ) (z : Complex) → i < n → {w₁ : List Float} → w₁ ≡ set_c w b n i (cadd (get_c w b n i) z) → w₁ ≡ put_c w b (add_in cadd cnan (region_c w b n) i z)
  cell-added i z l e =
      e
      ∙ ap (λ t. set_c t b n i (cadd (get_c w b n i) z)) (sym (put_c-region_c w b n))
      ∙ put_c-set w b (region_c w b n) (length-region_c w b n) i (cadd (get_c w b n i) z) l
      ∙ ap (λ y. put_c w b (set (region_c w b n) i (cadd y z))) (sym (get_or-region_c w b n i l))

  real-again : b + n ≤ length w → (v : List Float) → length v ≡ n → (i : ℕ) (x : Float) {w₁ w₂ : List Float} → w₁ ≡ put w b v
      → w₂ ≡ put w₁ b (add_in ◌⊕◌ nan (region nan w₁ b n) i x) → w₂ ≡ put w b (add_in ◌⊕◌ nan v i x)
  real-again h v k i x e₁ e₂ =
      e₂ ∙ rw (e₁, region-put w b v k nan h) (put-put w b (add_in ◌⊕◌ nan v i x) (length-set v i (get_or v i nan ⊕ x) ∙ k) v k)

  cell-again : b + 2 * n ≤ length w → (v : List Complex) → length v ≡ n → (i : ℕ) (z : Complex) {w₁ w₂ : List Float} → w₁ ≡ put_c w b v
      → w₂ ≡ put_c w₁ b (add_in cadd cnan (region_c w₁ b n) i z) → w₂ ≡ put_c w b (add_in cadd cnan v i z)
  cell-again h v k i z e₁ e₂ =
      e₂ ∙ rw (e₁, region_c-put_c w b v k h) (put_c-put_c w b (add_in cadd cnan v i z) (length-set v i (cadd (get_or v i cnan) z) ∙ k) v k)

  pub corners-all : b + n ≤ length w → (c : Triple) (d : Corners) {w₁ w₂ w₃ : List Float} → w₁ ≡ put w b (add_in ◌⊕◌ nan (region nan w b n) c.i d.i)
      → w₂ ≡ put w₁ b (add_in ◌⊕◌ nan (region nan w₁ b n) c.j d.j) → w₃ ≡ put w₂ b (add_in ◌⊕◌ nan (region nan w₂ b n) c.k d.k)
      → w₃ ≡ put w b (corners_added c d (region nan w b n))
  unfolding corners_added
  corners-all h c d e₁ e₂ e₃ =
      let v : List Float = region nan w b n in
      let v₁ : List Float = add_in ◌⊕◌ nan v c.i d.i in
      let k₁ : length v₁ ≡ n = length-set v c.i _ ∙ length-region nan w b n in
      let k₂ : length (add_in ◌⊕◌ nan v₁ c.j d.j) ≡ n = length-set v₁ c.j _ ∙ k₁ in
      real-again h (add_in ◌⊕◌ nan v₁ c.j d.j) k₂ c.k d.k (real-again h v₁ k₁ c.j d.j e₁ e₂) e₃

  pub sides_all : b + 2 * n ≤ length w → (s : Triple) (z : Sides) {w₁ w₂ w₃ : List Float} → w₁ ≡ put_c w b (add_in cadd cnan (region_c w b n) s.i z.ij)
      → w₂ ≡ put_c w₁ b (add_in cadd cnan (region_c w₁ b n) s.j z.jk) → w₃ ≡ put_c w₂ b (add_in cadd cnan (region_c w₂ b n) s.k z.ki)
      → w₃ ≡ put_c w b (sides_added s z (region_c w b n))
  unfolding sides_added
  sides_all h s z e₁ e₂ e₃ =
      let v : List Complex = region_c w b n in
      let v₁ : List Complex = add_in cadd cnan v s.i z.ij in
      let k₁ : length v₁ ≡ n = length-set v s.i _ ∙ length-region_c w b n in
      let k₂ : length (add_in cadd cnan v₁ s.j z.jk) ≡ n = length-set v₁ s.j _ ∙ k₁ in
      cell-again h (add_in cadd cnan v₁ s.j z.jk) k₂ s.k z.ki (cell-again h v₁ k₁ s.j z.jk e₁ e₂) e₃

  -- the correction: none where the weight is 0
  pub correction-none : (h : Float) (c : Triple) (x : Float) → is_plain h ≡ true → w ≡ put w b (correction_added h c x (region nan w b n))
  unfolding correction_added
  correction-none h c x e = sym (rw e (put-region nan w b n))

  pub correction-some : (h : Float) (c : Triple) (x : Float) → is_plain h ≡ false → {w₁ : List Float} → w₁ ≡ put w b (corners_added c (thrice x) (region nan w b n))
      → w₁ ≡ put w b (correction_added h c x (region nan w b n))
  unfolding correction_added
  correction-some h c x e f = f ∙ rw e

-- ---- in a matrix

pub part-all : (w : List Float) (h : Hermitian) (c s : Triple) (p : Part) → MatrixIn (length w) h → {w₁ w₂ : List Float}
    → w₁ ≡ put w h.diagonal (corners_added c p.corners (region nan w h.diagonal h.size))
    → w₂ ≡ put_c w₁ h.off (sides_added s p.sides (region_c w₁ h.off h.edges))
    → w₂ ≡ part_added h c s p w
unfolding part_added
part-all w h c s p m e₁ e₂ =
    let v : List Float = corners_added c p.corners (region nan w h.diagonal h.size) in
    let k : length v ≡ h.size = length-corners_added c p.corners (region nan w h.diagonal h.size) ∙ length-region nan w h.diagonal h.size in
    e₂ ∙ rw (e₁, region_c-put-else w h.diagonal v k h.off h.edges (omega (arith, apart)))
