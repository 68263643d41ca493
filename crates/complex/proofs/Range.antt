-- The ranges of cross_angle and wrap_to_pi, for every value: the cross angle lies in [0, FRAC_PI_2) by the test that the function itself makes;
-- a wrapped angle is NaN or lies in (-PI, PI], since PI, TAU and their differences from a remainder are bounded by doubles.
use mathlib.Core.Path.{◌≡◌, refl, sym, subst, ◌∙◌}
use mathlib.Core.Logic.{◌⊎◌, inl, inr, ⊎_elim}
use Prim.Native.Nat.{ℕ, ◌+◌, ◌-◌, ◌*◌, ◌^◌, ◌≤◌, ◌<◌}
use native.Mathlib.Nat.{le_trans, le_of_eq, le_of_lt, mul_assoc, mul-pos, zero-mul, mul-le-mul_right}
use native.Mathlib.Omega.{arith}
use mathlib.Core.Bool.{Bool, true, false, cond, ◌&&◌, ◌||◌, beq}
use borrow.Author.Tests.{ltb-true, ltb-false, lt-ltb, eqb-true, eqb-false}
use lib.Dec.{T, ltb, eqb, lit<}
use lib.Arith.{lt_of_le-ne}
use lib.IntN.{negsuc}
use lib.Ieee.{Float, nan, inf, fin, binary64, up, down, round, sum, neg, add, sub, rem, lt, le, of_bits}
use lib.Ieee.Fits.{down_pos}
use Rattle.float.specs.Double.{lit, is_finite, rem_euclid, FRAC-PI-2, PI, TAU, ◌⊕◌, ◌⊖◌, ◌⊘◌}
use Rattle.float.proofs.Sign.{Plain}
use Rattle.float.proofs.Within.{Within, Exact, Low, round-within, euclid-within, within-le, lifted, and_both, exact-tau, tau-is, pi-is}
use Rattle.complex.specs.declared.Complex.{Complex}
use Rattle.complex.specs.Complex.{argument_of}
use Rattle.complex.specs.Angle.{in_range, cross_angle, unwound, wrap_to_pi, IsCross, IsWrapped, WrapRange}

-- ---- cross_angle
in-range : (a : Float) → IsCross (in_range a)
unfolding in_range
in-range a = go (le (lit 0) a && lt a FRAC-PI-2) refl
  where
    zero-low : le (lit 0) (lit 0) ≡ true
    zero-low = unfold le of_bits in refl

    zero_high : lt (lit 0) FRAC-PI-2 ≡ true
    zero_high = unfold lt of_bits in refl

    go : (t : Bool) → le (lit 0) a && lt a FRAC-PI-2 ≡ t → IsCross (cond t a (lit 0))
    go true e = let b = and_both (le (lit 0) a) (lt a FRAC-PI-2) e in record { from = b.0; below = b.1 }
    go false e = record { from = zero-low; below = zero_high }

pub cross-angle-range : (z : Complex) → IsCross (cross_angle z)
unfolding cross_angle
cross-angle-range z = in-range (rem_euclid (argument_of z ⊘ lit 0x4010_0000_0000_0000) FRAC-PI-2)

-- ---- wrap_to_pi
exact-pi : Exact 884279719003555 (2 ^ 48)
unfolding round
exact-pi = (refl, refl)

-- z - pi, for z from 0 to 2 pi: with u / v the size of z
centre : (t : Bool) (u v : ℕ) → 0 < v → u * 2 ^ 47 ≤ 884279719003555 * v → (t ≡ false) ⊎ (u ≡ 0) → Within (sum binary64 t (u * 2 ^ 48) true (884279719003555 * 1 * v) (v * 2 ^ 48)) 884279719003555 (2 ^ 48)
unfolding sum
centre t u v Vp h d = go t (ltb (u * 2 ^ 48) (884279719003555 * 1 * v)) d
  where
    near : (s : Bool) (n : ℕ) → n ≤ 884279719003555 * v → Within (round binary64 s n (v * 2 ^ 48)) 884279719003555 (2 ^ 48)
    near s n l = round-within s n (v * 2 ^ 48) 884279719003555 (2 ^ 48) (mul-pos Vp (lit< tt)) (lit< tt) exact-pi (le_trans (mul-le-mul_right (2 ^ 48) l) (le_of_eq (mul_assoc 884279719003555 v (2 ^ 48))))

    go : (t l : Bool) → (t ≡ false) ⊎ (u ≡ 0)
        → Within (cond (beq t true) (round binary64 t (u * 2 ^ 48 + 884279719003555 * 1 * v) (v * 2 ^ 48))
        (cond l (round binary64 true (884279719003555 * 1 * v - u * 2 ^ 48) (v * 2 ^ 48)) (round binary64 (t && ltb (884279719003555 * 1 * v) (u * 2 ^ 48)) (u * 2 ^ 48 - 884279719003555 * 1 * v) (v * 2 ^ 48)))) 884279719003555 (2 ^ 48)
    go true l d = near true (u * 2 ^ 48 + 884279719003555 * 1 * v) (⊎_elim (λ e. absurd (subst T e tt)) (λ e. omega arith) d)
    go false true d = near true (884279719003555 * 1 * v - u * 2 ^ 48) (omega arith)
    go false false d = near false (u * 2 ^ 48 - 884279719003555 * 1 * v) (omega arith)

less-pi : (z : Float) → Low z → Within z 884279719003555 (2 ^ 47) → Within (sub binary64 z (fin false 884279719003555 (negsuc 47))) 884279719003555 (2 ^ 48)
unfolding sub
less-pi nan l h = absurd l
less-pi (inf s) l h = absurd h
less-pi (fin s m e) l h = centre s (m * up e) (down e) (down_pos e) h (⊎_elim (λ z. inl z) (λ z. inr (rw z (zero-mul (up e)))) l)

-- w + 2 pi, for a w that is -pi
raised : (u v : ℕ) → 0 < v → u * 2 ^ 48 ≤ 884279719003555 * v → 884279719003555 * v ≤ u * 2 ^ 48 → Within (sum binary64 true (u * 2 ^ 47) false (884279719003555 * 1 * v) (v * 2 ^ 47)) 884279719003555 (2 ^ 48)
unfolding sum
raised u v Vp h g = go (ltb (u * 2 ^ 47) (884279719003555 * 1 * v))
  where
    near : (s : Bool) (n : ℕ) → n * 2 ≤ 884279719003555 * v → Within (round binary64 s n (v * 2 ^ 47)) 884279719003555 (2 ^ 48)
    near s n l = round-within s n (v * 2 ^ 47) 884279719003555 (2 ^ 48) (mul-pos Vp (lit< tt)) (lit< tt) exact-pi (far n v l)
      where
        far : (n v : ℕ) → n * 2 ≤ 884279719003555 * v → n * 2 ^ 48 ≤ 884279719003555 * (v * 2 ^ 47)
        far n v l = omega arith

    go : (l : Bool) → Within (cond l (round binary64 false (884279719003555 * 1 * v - u * 2 ^ 47) (v * 2 ^ 47)) (round binary64 (true && ltb (884279719003555 * 1 * v) (u * 2 ^ 47)) (u * 2 ^ 47 - 884279719003555 * 1 * v) (v * 2 ^ 47))) 884279719003555 (2 ^ 48)
    go true = near false (884279719003555 * 1 * v - u * 2 ^ 47) (omega arith)
    go false = near (true && ltb (884279719003555 * 1 * v) (u * 2 ^ 47)) (u * 2 ^ 47 - 884279719003555 * 1 * v) (omega arith)

or-ge : (a b : ℕ) → ltb b a || (eqb a b && true) ≡ true → b ≤ a
or-ge a b h = go (ltb b a) refl h
  where
    go : (t : Bool) → ltb b a ≡ t → t || (eqb a b && true) ≡ true → b ≤ a
    go true e h = le_of_lt (ltb-true b a e)
    go false e h = le_of_eq (sym (eqb-true a b (and_both (eqb a b) true h).0))

pub unwound-within : (w : Float) → Within w 884279719003555 (2 ^ 48) → Within (unwound w) 884279719003555 (2 ^ 48)
unfolding unwound le neg of_bits add
unwound-within nan h = absurd h
unwound-within (inf s) h = absurd h
unwound-within (fin true m e) h = go (ltb (884279719003555 * 1 * down e) (m * up e * 2 ^ 48) || (eqb (m * up e * 2 ^ 48) (884279719003555 * 1 * down e) && true)) refl
  where
    go : (l : Bool) → ltb (884279719003555 * 1 * down e) (m * up e * 2 ^ 48) || (eqb (m * up e * 2 ^ 48) (884279719003555 * 1 * down e) && true) ≡ l
        → Within (cond l (sum binary64 true (m * up e * 2 ^ 47) false (884279719003555 * 1 * down e) (down e * 2 ^ 47)) (fin true m e)) 884279719003555 (2 ^ 48)
    go true p = raised (m * up e) (down e) (down_pos e) h (omega (arith, or-ge (m * up e * 2 ^ 48) (884279719003555 * 1 * down e) p))
    go false p = h
unwound-within (fin false m e) h = go (eqb (m * up e * 2 ^ 48) (884279719003555 * 1 * down e)) (eqb (m * up e * 2 ^ 48) 0) refl refl
  where
    go : (l k : Bool) → eqb (m * up e * 2 ^ 48) (884279719003555 * 1 * down e) ≡ l → eqb (m * up e * 2 ^ 48) 0 ≡ k
        → Within (cond (false || (l && (false || k))) (sum binary64 false (m * up e * 2 ^ 47) false (884279719003555 * 1 * down e) (down e * 2 ^ 47)) (fin false m e)) 884279719003555 (2 ^ 48)
    go true true p q = absurd (omega (arith, eqb-true (m * up e * 2 ^ 48) (884279719003555 * 1 * down e) p, eqb-true (m * up e * 2 ^ 48) 0 q, down_pos e))
    go true false p q = h
    go false true p q = h
    go false false p q = h

-- nan, or of size pi at most
abbrev pub Wrapped : Float → Type 0
Wrapped w = (w ≡ nan) ⊎ Within w 884279719003555 (2 ^ 48)

wrapped : (z : Float) → Wrapped (unwound (rem_euclid z (fin false 884279719003555 (negsuc 46)) ⊖ fin false 884279719003555 (negsuc 47)))
unfolding unwound
wrapped nan = inl (unfold unwound rem lt sub le in refl)
wrapped (inf s) = inl (unfold unwound rem lt sub le in refl)
wrapped (fin s m e) =
    let k = euclid-within 884279719003555 (negsuc 46) (lit< tt) exact-tau (fin s m e) tt in
    inr (unwound-within (rem_euclid (fin s m e) (fin false 884279719003555 (negsuc 46)) ⊖ fin false 884279719003555 (negsuc 47))
    (less-pi (rem_euclid (fin s m e) (fin false 884279719003555 (negsuc 46))) k.0 k.1))

pub wrap-within : (x : Float) → Wrapped (wrap_to_pi x)
unfolding wrap_to_pi
wrap-within x = subst (λ (y : Float). Wrapped (unwound (rem_euclid (x ⊕ PI) y ⊖ PI))) (sym tau-is) (subst (λ (y : Float). Wrapped (unwound (rem_euclid (x ⊕ PI) (fin false 884279719003555 (negsuc 46)) ⊖ y))) (sym pi-is) (wrapped (x ⊕ PI)))

-- and strictly above -pi
plain-above : (w : Float) → Plain w → lt (neg PI) w ≡ true
unfolding lt neg of_bits
plain-above nan h = absurd h
plain-above (inf true) h = absurd (subst T h tt)
plain-above (inf false) h = refl
plain-above (fin true m e) h = absurd (subst T h tt)
plain-above (fin false m e) h = lt-ltb 0 (884279719003555 * 1 * down e + m * up e * 2 ^ 48) (omega (arith, down_pos e))

or-false : (a b : ℕ) → ltb b a || (eqb a b && true) ≡ false → a < b
or-false a b h = go (ltb b a) (eqb a b) refl refl h
  where
    go : (x y : Bool) → ltb b a ≡ x → eqb a b ≡ y → x || (y && true) ≡ false → a < b
    go true y p q h = absurd (subst T h tt)
    go false true p q h = absurd (subst T h tt)
    go false false p q h = strict (ltb-false b a p) (eqb-false a b q)
      where
        strict : a ≤ b → (a ≡ b → ⊥) → a < b
        strict l n = lt_of_le-ne l n

pub unwound-above : (w : Float) → Within w 884279719003555 (2 ^ 48) → lt (neg PI) (unwound w) ≡ true
unfolding unwound le lt neg of_bits add
unwound-above nan h = absurd h
unwound-above (inf s) h = absurd h
unwound-above (fin true m e) h = go (ltb (884279719003555 * 1 * down e) (m * up e * 2 ^ 48) || (eqb (m * up e * 2 ^ 48) (884279719003555 * 1 * down e) && true)) refl
  where
    go : (l : Bool) → ltb (884279719003555 * 1 * down e) (m * up e * 2 ^ 48) || (eqb (m * up e * 2 ^ 48) (884279719003555 * 1 * down e) && true) ≡ l
        → lt (neg PI) (cond l (sum binary64 true (m * up e * 2 ^ 47) false (884279719003555 * 1 * down e) (down e * 2 ^ 47)) (fin true m e)) ≡ true
    go true p =
        plain-above (sum binary64 true (m * up e * 2 ^ 47) false (884279719003555 * 1 * down e) (down e * 2 ^ 47))
        (lifted 884279719003555 (negsuc 46) (lit< tt) exact-tau (m * up e * 2 ^ 47) (884279719003555 * 1 * down e) (down e * 2 ^ 47) (mul-pos (down_pos e) (lit< tt)) (omega arith) (le_of_eq (mul_assoc (884279719003555 * 1) (down e) (2 ^ 47)))).0
    go false p = lt-ltb (m * up e * 2 ^ 48) (884279719003555 * 1 * down e) (or-false (m * up e * 2 ^ 48) (884279719003555 * 1 * down e) p)
unwound-above (fin false m e) h = go (eqb (m * up e * 2 ^ 48) (884279719003555 * 1 * down e)) (eqb (m * up e * 2 ^ 48) 0) refl refl
  where
    go : (l k : Bool) → eqb (m * up e * 2 ^ 48) (884279719003555 * 1 * down e) ≡ l → eqb (m * up e * 2 ^ 48) 0 ≡ k
        → lt (neg PI) (cond (false || (l && (false || k))) (sum binary64 false (m * up e * 2 ^ 47) false (884279719003555 * 1 * down e) (down e * 2 ^ 47)) (fin false m e)) ≡ true
    go true true p q = absurd (omega (arith, eqb-true (m * up e * 2 ^ 48) (884279719003555 * 1 * down e) p, eqb-true (m * up e * 2 ^ 48) 0 q, down_pos e))
    go true false p q = plain-above (fin false m e) refl
    go false true p q = plain-above (fin false m e) refl
    go false false p q = plain-above (fin false m e) refl

-- of z = x + PI where that is finite
centred : (z : Float) → T (is_finite z) → Within (rem_euclid z (fin false 884279719003555 (negsuc 46)) ⊖ fin false 884279719003555 (negsuc 47)) 884279719003555 (2 ^ 48)
centred z h =
    let k = euclid-within 884279719003555 (negsuc 46) (lit< tt) exact-tau z h in
    less-pi (rem_euclid z (fin false 884279719003555 (negsuc 46))) k.0 k.1

is-wrapped : (w : Float) → Within w 884279719003555 (2 ^ 48) → IsWrapped (unwound w)
is-wrapped w h = record {
  above = unwound-above w h;
  to = subst (λ (y : Float). le (unwound w) y ≡ true) (sym pi-is) (within-le (unwound w) 884279719003555 (negsuc 47) (unwound-within w h));
}

-- in (-PI, PI] wherever angle + PI is finite
pub wrap-finite : (x : Float) → T (is_finite (x ⊕ PI)) → IsWrapped (wrap_to_pi x)
unfolding wrap_to_pi
wrap-finite x h =
    subst (λ (y : Float). IsWrapped (unwound (rem_euclid (x ⊕ PI) y ⊖ PI))) (sym tau-is)
    (subst (λ (y : Float). IsWrapped (unwound (rem_euclid (x ⊕ PI) (fin false 884279719003555 (negsuc 46)) ⊖ y))) (sym pi-is)
    (is-wrapped (rem_euclid (x ⊕ PI) (fin false 884279719003555 (negsuc 46)) ⊖ fin false 884279719003555 (negsuc 47)) (centred (x ⊕ PI) h)))

-- and NaN elsewhere
pub wrap-other : (x : Float) → is_finite (x ⊕ PI) ≡ false → wrap_to_pi x ≡ nan
unfolding wrap_to_pi
wrap-other x h = other (x ⊕ PI) h
  where
    other : (z : Float) → is_finite z ≡ false → unwound (rem_euclid z TAU ⊖ PI) ≡ nan
    other nan h = unfold unwound rem lt sub le of_bits in refl
    other (inf s) h = unfold unwound rem lt sub le of_bits in refl
    other (fin s m e) h = absurd (subst T h tt)

-- ---- what the two functions ensure, from their equations
pub crossed : (z : Complex) (r : Float) → r ≡ cross_angle z → (r ≡ cross_angle z) × IsCross r
crossed z r e = (e, subst IsCross (sym e) (cross-angle-range z))

pub wrapped-from : (x r : Float) → r ≡ wrap_to_pi x → (r ≡ wrap_to_pi x) × WrapRange x r
wrapped-from x r e = (e, (λ h. subst IsWrapped (sym e) (wrap-finite x (subst T (sym h) tt)), λ h. e ∙ wrap-other x h))
