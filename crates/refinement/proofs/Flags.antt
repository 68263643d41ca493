-- How far the field turns along a side and over a triangle, and that a triangle is flagged exactly where one of its sides turns by more than the
-- threshold. Assumes nothing.
use mathlib.Core.Path.{◌≡◌, refl, sym, ap, ◌∙◌, subst}
use Prim.Native.Nat.{ℕ, zero, suc, ◌+◌, ◌*◌, ◌<◌}
use native.Mathlib.Omega.{arith}
use mathlib.Core.Bool.{Bool, true, false, not, cond, ◌&&◌, ◌||◌}
use mathlib.Core.List.{List}
use borrow.Author.Tests.{ltb-true, ltb-false, lt-ltb, le-ltb, eq-eqb, eqb-true, eqb-false}
use lib.Dec.{T, ltb, eqb}
use lib.Ieee.{Float, nan, inf, fin, up, down, below, level, lt, le, ne, of_bits, rem, sub}
use Rattle.float.specs.Double.{lit, is_finite, rem_euclid, max_of, min_of, FRAC-PI-2, ◌⊖◌}
use Rattle.mesh.specs.Mesh.{Tri, tri}
use Rattle.refinement.specs.Flag.{turn_along, turns_by, largest, variation, flagged, angle, flagged_tri, turns_more}
use Rattle.float.proofs.Less.{right-number, level-self, trans, lt-max}

no : {A : Type 0} → false ≡ true → A
no h = absurd (subst T (sym h) tt)

no' : {A : Type 0} → true ≡ false → A
no' h = absurd (subst T h tt)

-- ---- of two numbers, one is at most the other or above it
three-way : (a b : ℕ) → not (ltb a b || (eqb a b && true)) ≡ ltb b a
three-way a b = go (ltb a b) (eqb a b) (ltb b a) refl refl refl
  where
    go : (x y z : Bool) → ltb a b ≡ x → eqb a b ≡ y → ltb b a ≡ z → not (x || (y && true)) ≡ z
    go true y true p q r = absurd (omega (arith, ltb-true a b p, ltb-true b a r))
    go true y false p q r = refl
    go false true true p q r = absurd (omega (arith, eqb-true a b q, ltb-true b a r))
    go false true false p q r = refl
    go false false true p q r = refl
    go false false false p q r = absurd (eqb-false a b q (omega (arith, ltb-false a b p, ltb-false b a r)))

not-below : (s t : Bool) (a b : ℕ) → not (below s a t b || level s a t b) ≡ below t b s a
not-below false false a b = three-way a b
not-below true true a b = flip (eqb a b) (eqb b a) (eq_flip a b) ∙ three-way b a
  where
    eq_flip : (a b : ℕ) → eqb a b ≡ eqb b a
    eq_flip a b = go (eqb a b) (eqb b a) refl refl
      where
        go : (x y : Bool) → eqb a b ≡ x → eqb b a ≡ y → x ≡ y
        go true true p q = refl
        go true false p q = absurd (eqb-false b a q (sym (eqb-true a b p)))
        go false true p q = absurd (eqb-false a b p (sym (eqb-true b a q)))
        go false false p q = refl

    flip : (x y : Bool) → x ≡ y → not (ltb b a || (x && true)) ≡ not (ltb b a || (y && true))
    flip x y e = ap (λ (z : Bool). not (ltb b a || (z && true))) e
not-below false true a b = go (eqb a b) (eqb a 0) refl refl
  where
    go : (x y : Bool) → eqb a b ≡ x → eqb a 0 ≡ y → not (false || (x && (false || y))) ≡ ltb 0 (b + a)
    go true true p q = sym (le-ltb 0 (b + a) (omega (arith, eqb-true a b p, eqb-true a 0 q)))
    go true false p q = sym (lt-ltb 0 (b + a) (positive a b (eqb-false a 0 q)))
      where
        positive : (a b : ℕ) → (a ≡ 0 → ⊥) → 0 < b + a
        positive zero b f = absurd (f refl)
        positive (suc a) b f = omega arith
    go false y p q = sym (lt-ltb 0 (b + a) (apart a b (eqb-false a b p)))
      where
        apart : (a b : ℕ) → (a ≡ b → ⊥) → 0 < b + a
        apart zero zero f = absurd (f refl)
        apart zero (suc b) f = omega arith
        apart (suc a) b f = omega arith
not-below true false a b = go (ltb 0 (a + b)) refl
  where
    go : (x : Bool) → ltb 0 (a + b) ≡ x → not (x || (eqb a b && (false || eqb a 0))) ≡ false
    go true p = refl
    go false p = rw (eq-eqb a b (omega (arith, ltb-false 0 (a + b) p)), eq-eqb a 0 (omega (arith, ltb-false 0 (a + b) p)))

not-le : (x y : Float) → ne x x ≡ false → ne y y ≡ false → not (le x y) ≡ lt y x
unfolding ne le
not-le nan y h g = no' h
not-le (inf s) nan h g = no' g
not-le (inf true) (inf true) h g = refl
not-le (inf true) (inf false) h g = refl
not-le (inf false) (inf true) h g = refl
not-le (inf false) (inf false) h g = refl
not-le (inf true) (fin t n d) h g = refl
not-le (inf false) (fin t n d) h g = refl
not-le (fin s m e) nan h g = no' g
not-le (fin s m e) (inf true) h g = refl
not-le (fin s m e) (inf false) h g = refl
not-le (fin s m e) (fin t n d) h g = not-below s t (m * up e * down d) (n * up d * down e)

-- ---- the largest turn

-- a number that is not below 0
abbrev Floored : Float → Type 0
Floored x = (ne x x ≡ false) × (lt x (lit 0) ≡ false)

zero-floored : Floored (lit 0)
unfolding ne lt of_bits
zero-floored = (refl, refl)

max-floored : (a b : Float) → Floored a → Floored (max_of a b)
max-floored a b h = go (lt a b) (ne a a) refl refl
  where
    above : (z : Bool) → lt b (lit 0) ≡ z → lt a b ≡ true → lt b (lit 0) ≡ false
    above true e p = no' (sym (trans a b (lit 0) p e) ∙ h.1)
    above false e p = e

    go : (l z : Bool) → lt a b ≡ l → ne a a ≡ z → Floored (cond l b (cond z b a))
    go true z p q = (right-number a b p, above (lt b (lit 0)) refl p)
    go false true p q = no' (sym q ∙ h.0)
    go false false p q = h

-- `max` drops a NaN, and 0
max-nan : (x : Float) → Floored x → max_of x nan ≡ x
max-nan x h = rw (not-below-nan x, h.0)
  where
    not-below-nan : (x : Float) → lt x nan ≡ false
    not-below-nan nan = unfold lt in refl
    not-below-nan (inf s) = unfold lt in refl
    not-below-nan (fin s m e) = unfold lt in refl

max-zero : (x : Float) → Floored x → max_of x (lit 0) ≡ x
max-zero x h = rw (h.1, h.0)

-- a side whose difference of angles is not finite turns by no number in the Rust
turn-none : (a b : Float) → is_finite (a ⊖ b) ≡ false → turn_along a b ≡ nan
unfolding turn_along
turn-none a b h = go (a ⊖ b) h
  where
    go : (z : Float) → is_finite z ≡ false → min_of (rem_euclid z FRAC-PI-2) (FRAC-PI-2 ⊖ rem_euclid z FRAC-PI-2) ≡ nan
    go nan h = unfold rem lt sub ne of_bits in refl
    go (inf s) h = unfold rem lt sub ne of_bits in refl
    go (fin s m e) h = no' h

-- so that `max` takes it for 0
max-turn : (x a b : Float) → Floored x → max_of x (turn_along a b) ≡ max_of x (turns_by a b)
unfolding turns_by
max-turn x a b h = go (is_finite (a ⊖ b)) refl
  where
    go : (f : Bool) → is_finite (a ⊖ b) ≡ f → max_of x (turn_along a b) ≡ max_of x (cond f (turn_along a b) (lit 0))
    go true e = refl
    go false e = ap (max_of x) (turn-none a b e) ∙ max-nan x h ∙ sym (max-zero x h)

pub varies : (a b c : Float) → variation a b c ≡ largest (turns_by a b) (turns_by b c) (turns_by c a)
unfolding variation
varies a b c =
    let h = max-floored (lit 0) (turns_by a b) zero-floored in
    let g = max-floored (max_of (lit 0) (turns_by a b)) (turns_by b c) h in
    ap (λ (x : Float). max_of (max_of x (turn_along b c)) (turn_along c a)) (max-turn (lit 0) a b zero-floored)
    ∙ ap (λ (x : Float). max_of x (turn_along c a)) (max-turn (max_of (lit 0) (turns_by a b)) b c h)
    ∙ max-turn (max_of (max_of (lit 0) (turns_by a b)) (turns_by b c)) c a g

-- ---- the turn along a side

pub turns : (a b : Float) → is_finite (a ⊖ b) ≡ true → turns_by a b ≡ min_of (rem_euclid (a ⊖ b) FRAC-PI-2) (FRAC-PI-2 ⊖ rem_euclid (a ⊖ b) FRAC-PI-2)
unfolding turns_by turn_along
turns a b h = rw h

pub endless-difference : (a b : Float) → is_finite (a ⊖ b) ≡ false → turns_by a b ≡ lit 0
unfolding turns_by
endless-difference a b h = rw h

endless : (a b : Float) → is_finite a && is_finite b ≡ false → is_finite (a ⊖ b) ≡ false
unfolding sub
endless nan b h = refl
endless (inf s) nan h = refl
endless (inf true) (inf true) h = refl
endless (inf true) (inf false) h = refl
endless (inf false) (inf true) h = refl
endless (inf false) (inf false) h = refl
endless (inf s) (fin t n d) h = refl
endless (fin s m e) nan h = refl
endless (fin s m e) (inf t) h = refl
endless (fin s m e) (fin t n d) h = no' h

pub endless-angle : (a b : Float) → is_finite a && is_finite b ≡ false → turns_by a b ≡ lit 0
endless-angle a b h = endless-difference a b (endless a b h)

-- ---- the test

le-number : (t : Float) → le (lit 0) t ≡ true → ne t t ≡ false
le-number nan h = no (unfold le of_bits in h)
le-number (inf true) h = unfold ne in refl
le-number (inf false) h = unfold ne in refl
le-number (fin s m e) h = unfold ne in ap not (level-self s (m * up e * down e))

-- what row 12 leaves
pub low : (t : Float) → is_finite t ≡ true → lt t (lit 0) ≡ false → le (lit 0) t ≡ true
low nan f h = no f
low (inf s) f h = no f
low (fin s m e) f h = back (le (lit 0) (fin s m e)) (not-le (lit 0) (fin s m e) zero-floored.0 (unfold ne in ap not (level-self s (m * up e * down e))) ∙ h)
  where
    back : (b : Bool) → not b ≡ false → b ≡ true
    back true e = refl
    back false e = no' e

-- the largest of three is above a threshold from 0 on exactly if one is
above-one : (t x y z : Float) → le (lit 0) t ≡ true → not (le (largest x y z) t) ≡ lt t x || lt t y || lt t z
above-one t x y z h =
    let n₁ = max-floored (lit 0) x zero-floored in
    let n₂ = max-floored (max_of (lit 0) x) y n₁ in
    let n₃ = max-floored (max_of (max_of (lit 0) x) y) z n₂ in
    let zero-not : lt t (lit 0) ≡ false = sym (not-le (lit 0) t zero-floored.0 (le-number t h)) ∙ ap not h in
    not-le (max_of (max_of (max_of (lit 0) x) y) z) t n₃.0 (le-number t h)
    ∙ lt-max t (max_of (max_of (lit 0) x) y) z
    ∙ ap (λ (q : Bool). q || lt t z) (lt-max t (max_of (lit 0) x) y ∙ ap (λ (q : Bool). q || lt t y) (lt-max t (lit 0) x ∙ ap (λ (q : Bool). q || lt t x) zero-not))

pub flag_is : (threshold : Float) (alpha : List Float) → le (lit 0) threshold ≡ true → (t : Tri) → flagged_tri threshold alpha t ≡ turns_more threshold alpha t
unfolding flagged_tri flagged
flag_is threshold alpha h (tri a b c) =
    ap (λ (v : Float). not (le v threshold)) (varies (angle alpha a) (angle alpha b) (angle alpha c)) ∙ above-one threshold _ _ _ h
