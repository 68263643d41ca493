-- The loops of `angles_from`, and what is known of a field: as many angles as values, each in [0, FRAC_PI_2). Assumes nothing.
use mathlib.Core.Path.{◌≡◌, refl, sym, ap, ◌∙◌}
use mathlib.Core.Bool.{Bool, true, false, not, cond, ◌&&◌}
use mathlib.Core.List.{List, [], ◌∷◌}
use Prim.Native.Nat.{ℕ, zero, suc, ◌+◌, ◌*◌, ◌≤◌, ◌<◌}
use native.Mathlib.Nat.{not-suc-le-zero, le_of_suc-le-suc}
use native.Mathlib.Omega.{arith}
use borrow.Author.Tests.{not-true, not-false}
use lib.Ieee.{Float, nan}
use lib.ListN.{length, get_or, set}
use Rattle.std.specs.Prelude.{Ok, Err}
use Rattle.complex.specs.declared.Complex.{Complex}
use Rattle.complex.specs.Complex.{cnan}
use Rattle.complex.specs.Angle.{cross_angle, IsCross}
use Rattle.complex.proofs.Range.{cross-angle-range}
use Rattle.linear_cells.specs.Region.{tab, region, put, Apart}
use Rattle.linear_cells.specs.Cell.{get_c, region_c}
use Rattle.linear_cells.proofs.Loops.{length-tab, get_or-tab, tab-ext}
use Rattle.linear_cells.proofs.Regions.{length-region, put-region}
use Rattle.linear_cells.proofs.Cells.{length-region_c, get_or-region_c, region_c-put-else}
use Rattle.linear_cells.proofs.Over.{over, over_none, length_over, over-all, over-region}
use Rattle.refusals.specs.Refusal.{gave_up, Verdict}
use Rattle.pass_field.specs.Field.{angles, endless, finite, all_finite, cross_angles, field_of}
use Rattle.pass_field.specs.Work.{FieldRoom, written, angles_stage, Fields}

-- ---- all finite

abbrev pub FiniteTo : List Complex → ℕ → Type 0
FiniteTo x i = (k : ℕ) → k < i → finite (get_or x k cnan) ≡ true

finite-all : (x : List Complex) → FiniteTo x (length x) → all_finite x ≡ true
unfolding all_finite
finite-all [] f = refl
finite-all (z ∷ zs) f = rw (f 0 (omega arith), finite-all zs (λ k h. f (suc k) (omega arith)))

finite-not : (x : List Complex) (i : ℕ) → i < length x → finite (get_or x i cnan) ≡ false → all_finite x ≡ false
unfolding all_finite
finite-not [] i l e = absurd (not-suc-le-zero l)
finite-not (z ∷ zs) zero l e = rw e
finite-not (z ∷ zs) (suc i) l e = rw (finite-not zs i (le_of_suc-le-suc l) e) (and-false (finite z))
  where
    and-false : (b : Bool) → (b && false) ≡ false
    and-false true = refl
    and-false false = refl

module _ (w : List Float) (x n : ℕ) where
  pub record FiniteUp (i : ℕ) : Type 0 where
    pub so_far : FiniteTo (region_c w x n) i

  pub finite-none : FiniteUp 0
  finite-none = record { so_far = λ k l. absurd (not-suc-le-zero l) }

  pub finite-again : (i : ℕ) → i < n → FiniteUp i → {z : Complex} {b : Bool} → z ≡ get_c w x n i → b ≡ finite z → not b ≡ false → FiniteUp (i + 1)
  finite-again i l f {z} {b} ez eb e =
      record { so_far = borrow.Author.Count.below_more _ _ f.so_far (ap (λ u. finite u) (get_or-region_c w x n i l ∙ sym ez) ∙ sym eb ∙ not-false b e) }

  pub finite-found : (i : ℕ) → i < n → {z : Complex} {b : Bool} → z ≡ get_c w x n i → b ≡ finite z → not b ≡ true → false ≡ all_finite (region_c w x n)
  finite-found i l {z} {b} ez eb e =
      sym (finite-not (region_c w x n) i (rw length-region_c l) (ap (λ u. finite u) (get_or-region_c w x n i l ∙ sym ez) ∙ sym eb ∙ not-true b e))

  pub finite-done : {i : ℕ} → i ≤ n → n ≤ i → FiniteUp i → true ≡ all_finite (region_c w x n)
  finite-done {i} l g f =
      let z : i ≡ length (region_c w x n) = rw length-region_c (omega arith) in
      sym (finite-all (region_c w x n) (rw z at f.so_far))

-- ---- the angles

module _ (w : List Float) (x at n : ℕ) where
  angle_at : ℕ → Float → Float
  angle_at i z = cross_angle (get_c w x n i)

  unfoldable pub angles_to : ℕ → List Float
  unfolding angle_at
  angles_to i = over angle_at nan i (region nan w at n)

  length_to : (i : ℕ) → length (angles_to i) ≡ n
  unfolding angles_to
  length_to i = length_over angle_at nan i (region nan w at n) ∙ length-region nan w at n

  pub angles-none : w ≡ put w at (angles_to 0)
  unfolding angles_to
  angles-none = rw (over_none, put-region)

  -- the value is what it was
  stays : Apart at n x (2 * n) → (i : ℕ) → i < n → {w₁ : List Float} → w₁ ≡ put w at (angles_to i) → get_c w₁ x n i ≡ get_c w x n i
  stays a i l e = value (angles_to i) (length_to i) e
    where
      value : (v : List Float) → length v ≡ n → {w₁ : List Float} → w₁ ≡ put w at v → get_c w₁ x n i ≡ get_c w x n i
      value v h e = sym (get_or-region_c _ x n i l) ∙ ap (λ u. get_or (region_c u x n) i cnan) e
          ∙ ap (λ u. get_or u i cnan) (region_c-put-else w at v h x n a) ∙ get_or-region_c w x n i l

  pub angles-again : FieldRoom (length w) x at n → (i : ℕ) → i < n → {w₁ w₂ : List Float} → w₁ ≡ put w at (angles_to i)
      → w₂ ≡ set w₁ (at + i) (cross_angle (get_c w₁ x n i)) → w₂ ≡ put w at (angles_to (i + 1))
  unfolding angles_to angle_at
  angles-again ok i l {w₁} e₁ e₂ =
      e₂ ∙ ap (λ z. set w₁ (at + i) (cross_angle z)) (stays ok.at_x i l e₁)
      ∙ rw e₁ (over-region angle_at nan w at (region nan w at n) (length-region nan w at n) ok.at_in i l)

  pub angles-done : {w₁ : List Float} {i : ℕ} → i ≤ n → n ≤ i → w₁ ≡ put w at (angles_to i) → w₁ ≡ put w at (cross_angles (region_c w x n))
  unfolding angles_to cross_angles angle_at
  angles-done {w₁} {i} l g e =
      let z : i ≡ n = omega arith in
      e ∙ rw z (ap (put w at) (over-all angle_at nan (region nan w at n) (length-region nan w at n)
      ∙ sym (rw length-region_c (tab-ext _ _ n (λ i h. ap cross_angle (get_or-region_c w x n i h))))))

-- ---- angles_from

module _ (w : List Float) (x at n : ℕ) {b : Bool} (eb : b ≡ all_finite (region_c w x n)) where
  pub from-endless : not b ≡ true → {r : Verdict} → r ≡ Err (gave_up 13 0) → Fields w w x at n r
  unfolding field_of written angles_stage
  from-endless t e =
      let q : all_finite (region_c w x n) ≡ false = sym eb ∙ not-true b t in
      record { work = rw q; stage = rw q e }

  pub from-angles : not b ≡ false → {w₁ : List Float} → w₁ ≡ put w at (cross_angles (region_c w x n)) → Fields w w₁ x at n (Ok tt)
  unfolding field_of written angles_stage
  from-angles t e =
      let q : all_finite (region_c w x n) ≡ true = sym eb ∙ not-false b t in
      record { work = rw q e; stage = rw q }

-- ---- a field

-- as many angles as values, each that of a cross
pub record IsField (x : List Complex) (a : List Float) : Type 0 where
  pub as_many : length a ≡ length x
  pub range : (i : ℕ) → i < length a → IsCross (get_or a i nan)

cross-angles : (x : List Complex) → IsField x (cross_angles x)
unfolding cross_angles
cross-angles x = record { as_many = length-tab _ (length x); range = range }
  where
    range : (i : ℕ) → i < length (tab (λ i. cross_angle (get_or x i cnan)) (length x)) → IsCross (get_or (tab (λ i. cross_angle (get_or x i cnan)) (length x)) i nan)
    range i l =
        let h : i < length x = rw length-tab at l in
        rw (get_or-tab (λ i. cross_angle (get_or x i cnan)) (length x) i nan h) (cross-angle-range (get_or x i cnan))

pub field-cross : (x : List Complex) (a : List Float) → field_of x ≡ angles a → IsField x a
unfolding field_of
field-cross x a e = go (all_finite x) e
  where
    go : (b : Bool) → cond b (angles (cross_angles x)) endless ≡ angles a → IsField x a
    go true e = let q : cross_angles x ≡ a = cc in rw q at (cross-angles x)
    go false e = let z : ◌≡◌ {A = ℕ} 0 1 = cc in absurd (omega arith)
