-- The sums of a floor's matrices, one more triangle at a time: what is added to a list is what each of its sums says. Assumes nothing.
use Prim.Native.Nat.{ℕ, zero, suc, ◌+◌, ◌<◌}
use native.Mathlib.Omega.{arith}
use native.Mathlib.Decide.{ℕ_discrete}
use native.Mathlib.Numerals.{add-one}
use mathlib.Core.Path.{◌≡◌, refl, sym, ap, ◌∙◌}
use mathlib.Core.Bool.{Bool, true, false, cond}
use borrow.Author.Tests.{eq-eqb, ne_eqb}
use lib.ListN.{length-set, get_or, replicate}
use lib.Seq.{get_or-set_same, get_or-set_other, ext_get_or}
use lib.Ieee.{Float, nan}
use Rattle.float.specs.Double.{lit, ◌⊕◌}
use Rattle.complex.specs.declared.Complex.{Complex}
use Rattle.complex.specs.Complex.{czero, cnan, cadd}
use Rattle.pass_terms.specs.declared.Mode.{Mode}
use Rattle.pass_terms.specs.declared.Corners.{Corners}
use Rattle.pass_terms.specs.declared.Sides.{Sides}
use Rattle.pass_terms.specs.Terms.{is_plain}
use Rattle.linear_cells.specs.Region.{tab}
use Rattle.linear_cells.proofs.Loops.{length-tab, get_or-tab, tab-ext, tab-replicate}
use Rattle.linear_hermitian.specs.declared.Hermitian.{Hermitian}
use Rattle.pass_assembly.specs.declared.Triple.{Triple}
use Rattle.pass_assembly.specs.Assembly.{Assembled, terms_at, add_at, add_corners, add_sides, thrice, add_correction, mass_diagonal_to, mass_off_to, energy_diagonal_to, energy_off_to}
use Rattle.pass_assembly.specs.Work.{Sums, sums_to, Within, add_in, corners_added, sides_added, correction_added, added}
use Rattle.pass_assembly.proofs.Lays.{Sized}

-- ---- a list of sums, one of them increased

module _ {A : Type 0} (plus : A → A → A) (d : A) (f : ℕ → A) (n : ℕ) where
  at_place : (i : ℕ) (x : A) → i < n → (v : ℕ) → v < n → Dec (v ≡ i) → get_or (add_in plus d (tab f n) i x) v d ≡ add_at plus v i x (f v)
  at_place i x l v m (yes e) =
      rw (eq-eqb v i e, e) (get_or-set_same (tab f n) i (plus (get_or (tab f n) i d) x) d (rw length-tab l) ∙ ap (λ y. plus y x) (get_or-tab f n i d l))
  at_place i x l v m (no e) = rw (ne_eqb v i e) (get_or-set_other (tab f n) i v (plus (get_or (tab f n) i d) x) d e ∙ get_or-tab f n v d m)

  tab-add : (i : ℕ) (x : A) → i < n → add_in plus d (tab f n) i x ≡ tab (λ v. add_at plus v i x (f v)) n
  tab-add i x l =
      ext_get_or d _ _ (length-set (tab f n) i (plus (get_or (tab f n) i d) x) ∙ length-tab f n ∙ sym (length-tab _ n)) (λ v m.
      let h : v < n = omega (arith, length-set (tab f n) i (plus (get_or (tab f n) i d) x), length-tab f n) in
      at_place i x l v h (ℕ_discrete v i) ∙ sym (get_or-tab _ n v d h))

tab-corners : (f : ℕ → Float) (n : ℕ) (c : Triple) (d : Corners) → Within n c → corners_added c d (tab f n) ≡ tab (λ v. add_corners v c d (f v)) n
unfolding corners_added add_corners
tab-corners f n c d h =
    let g : ℕ → Float = λ v. add_at ◌⊕◌ v c.i d.i (f v) in
    ap (λ l. add_in ◌⊕◌ nan (add_in ◌⊕◌ nan l c.j d.j) c.k d.k) (tab-add ◌⊕◌ nan f n c.i d.i h.0)
    ∙ ap (λ l. add_in ◌⊕◌ nan l c.k d.k) (tab-add ◌⊕◌ nan g n c.j d.j h.1.0)
    ∙ tab-add ◌⊕◌ nan (λ v. add_at ◌⊕◌ v c.j d.j (g v)) n c.k d.k h.1.1

tab-sides : (f : ℕ → Complex) (n : ℕ) (s : Triple) (z : Sides) → Within n s → sides_added s z (tab f n) ≡ tab (λ v. add_sides v s z (f v)) n
unfolding sides_added add_sides
tab-sides f n s z h =
    let g : ℕ → Complex = λ v. add_at cadd v s.i z.ij (f v) in
    ap (λ l. add_in cadd cnan (add_in cadd cnan l s.j z.jk) s.k z.ki) (tab-add cadd cnan f n s.i z.ij h.0)
    ∙ ap (λ l. add_in cadd cnan l s.k z.ki) (tab-add cadd cnan g n s.j z.jk h.1.0)
    ∙ tab-add cadd cnan (λ v. add_at cadd v s.j z.jk (g v)) n s.k z.ki h.1.1

tab-correction : (f : ℕ → Float) (n : ℕ) (w : Float) (c : Triple) (x : Float) → Within n c → correction_added w c x (tab f n) ≡ tab (λ v. add_correction w v c x (f v)) n
unfolding correction_added add_correction
tab-correction f n w c x h = go (is_plain w)
  where
    go : (b : Bool) → cond b (tab f n) (corners_added c (thrice x) (tab f n)) ≡ tab (λ v. cond b (f v) (add_corners v c (thrice x) (f v))) n
    go true = refl
    go false = tab-corners f n c (thrice x) h

-- ---- the sums of a floor

pub sums-sized : (m : Mode) (f : Assembled) (t : ℕ) (mass energy : Hermitian) → energy.size ≡ mass.size → energy.edges ≡ mass.edges
    → Sized mass energy (sums_to m f mass.size mass.edges t)
unfolding sums_to
sums-sized m f t mass energy p q = record {
  mass-n = length-tab _ mass.size;
  mass-e = length-tab _ mass.edges;
  energy-n = length-tab _ mass.size ∙ sym p;
  energy-e = length-tab _ mass.edges ∙ sym q;
}

-- zeros
unfoldable pub zeros : ℕ → ℕ → Sums
zeros n e = record { mass_diagonal = replicate n (lit 0); mass_off = replicate e czero; energy_diagonal = replicate n (lit 0); energy_off = replicate e czero }

pub sums_none : (m : Mode) (f : Assembled) (n e : ℕ) → zeros n e ≡ sums_to m f n e 0
unfolding sums_to mass_diagonal_to mass_off_to energy_diagonal_to energy_off_to zeros
sums_none m f n e = sym (rw (tab-replicate (lit 0) n, tab-replicate czero e))

-- one more triangle
sums-suc : (m : Mode) (f : Assembled) (n e t : ℕ) → Within n (f.corners t) → Within e (f.numbers t)
    → added m.holomorphic (f.corners t) (f.numbers t) (terms_at m f t) (sums_to m f n e t) ≡ sums_to m f n e (suc t)
unfolding added sums_to mass_diagonal_to mass_off_to energy_diagonal_to energy_off_to
sums-suc m f n e t hc hs =
    let c : Triple = f.corners t in
    let s : Triple = f.numbers t in
    let p = tab-corners (λ v. mass_diagonal_to m f v t) n c (terms_at m f t).mass.corners hc in
    let q = tab-sides (λ v. mass_off_to m f v t) e s (terms_at m f t).mass.sides hs in
    let r =
    ap (correction_added m.holomorphic c (terms_at m f t).correction) (tab-corners (λ v. energy_diagonal_to m f v t) n c (terms_at m f t).energy.corners hc)
    ∙ tab-correction (λ v. add_corners v c (terms_at m f t).energy.corners (energy_diagonal_to m f v t)) n m.holomorphic c (terms_at m f t).correction hc in
    let o = tab-sides (λ v. energy_off_to m f v t) e s (terms_at m f t).energy.sides hs in
    λ k. record { mass_diagonal = p k; mass_off = q k; energy_diagonal = r k; energy_off = o k }

pub sums-more : (m : Mode) (f : Assembled) (n e t : ℕ) → Within n (f.corners t) → Within e (f.numbers t)
    → added m.holomorphic (f.corners t) (f.numbers t) (terms_at m f t) (sums_to m f n e t) ≡ sums_to m f n e (t + 1)
sums-more m f n e t hc hs = rw (add-one t) (sums-suc m f n e t hc hs)

-- ---- two floors whose triangles add the same

abbrev pub SameTo : Mode → Assembled → Assembled → ℕ → Type 0
SameTo m f g t = (i : ℕ) → i < t → (f.corners i ≡ g.corners i) × ((f.numbers i ≡ g.numbers i) × (terms_at m f i ≡ terms_at m g i))

-- two sequences that begin alike, and go on alike, are alike
same-to : {A : Type 0} (x y : ℕ → A) → x 0 ≡ y 0 → (t : ℕ) → ((i : ℕ) → i < t → x i ≡ y i → x (suc i) ≡ y (suc i)) → x t ≡ y t
same-to x y z zero h = z
same-to x y z (suc t) h = h t (omega arith) (same-to x y z t (λ i l. h i (omega arith)))

module _ (m : Mode) (f g : Assembled) where
  mass-diagonal-same : (v t : ℕ) → SameTo m f g t → mass_diagonal_to m f v t ≡ mass_diagonal_to m g v t
  unfolding mass_diagonal_to
  mass-diagonal-same v t h = same-to (mass_diagonal_to m f v) (mass_diagonal_to m g v) refl t (λ i l e. let a = h i l in rw (a.0, a.1.1, e))

  mass-off-same : (v t : ℕ) → SameTo m f g t → mass_off_to m f v t ≡ mass_off_to m g v t
  unfolding mass_off_to
  mass-off-same v t h = same-to (mass_off_to m f v) (mass_off_to m g v) refl t (λ i l e. let a = h i l in rw (a.1.0, a.1.1, e))

  energy-diagonal-same : (v t : ℕ) → SameTo m f g t → energy_diagonal_to m f v t ≡ energy_diagonal_to m g v t
  unfolding energy_diagonal_to
  energy-diagonal-same v t h = same-to (energy_diagonal_to m f v) (energy_diagonal_to m g v) refl t (λ i l e. let a = h i l in rw (a.0, a.1.1, e))

  energy-off-same : (v t : ℕ) → SameTo m f g t → energy_off_to m f v t ≡ energy_off_to m g v t
  unfolding energy_off_to
  energy-off-same v t h = same-to (energy_off_to m f v) (energy_off_to m g v) refl t (λ i l e. let a = h i l in rw (a.1.0, a.1.1, e))

  pub sums_same : (n e t : ℕ) → SameTo m f g t → sums_to m f n e t ≡ sums_to m g n e t
  unfolding sums_to
  sums_same n e t h =
      let p = tab-ext (λ v. mass_diagonal_to m f v t) (λ v. mass_diagonal_to m g v t) n (λ v l. mass-diagonal-same v t h) in
      let q = tab-ext (λ v. mass_off_to m f v t) (λ v. mass_off_to m g v t) e (λ v l. mass-off-same v t h) in
      let r = tab-ext (λ v. energy_diagonal_to m f v t) (λ v. energy_diagonal_to m g v t) n (λ v l. energy-diagonal-same v t h) in
      let o = tab-ext (λ v. energy_off_to m f v t) (λ v. energy_off_to m g v t) e (λ v l. energy-off-same v t h) in
      λ k. record { mass_diagonal = p k; mass_off = q k; energy_diagonal = r k; energy_off = o k }
