-- Facts on single values: what a comparison with a bound says of the value, and what a bit pattern is where its sign is cleared or turned. The proofs of this crate and of those above cite them. Assumes nothing.
use Rattle.std.proofs.Common.{◌≡◌, ℕ, zero, suc, ◌+◌, ◌*◌, ◌%◌, ◌^◌, ◌<◌, ◌≤◌, Bool, true, false, not, T, ℤ, sym, refl, ap, ◌∙◌, subst, le-div_iff_mul-le, arith, ltb-false, le-ltb, lt-ltb}
use native.Mathlib.Nat.{min-eq_right}
use lib.Ieee.{Float, nan, inf, fin, binary64, up, down, lt, eq, ne, neg, div, of_bits, to_bits, to_unsigned, is_nan, nan_bits, fits}
use lib.Ieee.Bits.{nan_bits_is, nan_bits_above, of_bits-to_bits, to_bits-lt}
use lib.Ieee.Fits.{down_pos}
use lib.Ieee.Compare.{differs_from_itself}
use Rattle.float.specs.Double.{mag, is_finite, turn_sign}

no : {A : Type 0} → false ≡ true → A
no h = absurd (subst T (sym h) tt)

no' : {A : Type 0} → true ≡ false → A
no' h = absurd (subst T h tt)

-- ---- is_finite
pub finite-is : (x : Float) → lt (mag x) (div binary64 (of_bits binary64 0x3ff0_0000_0000_0000) (of_bits binary64 0)) ≡ is_finite x
unfolding lt of_bits mag div
finite-is nan = refl
finite-is (inf s) = refl
finite-is (fin s m e) = refl

-- ---- bits
pub nan-bits : (x : Float) → ne x x ≡ true → 0x7ff8_0000_0000_0000 ≡ to_bits binary64 x
unfolding to_bits
nan-bits x h = subst (λ (y : Float). 0x7ff8_0000_0000_0000 ≡ to_bits binary64 y) (sym (differs_from_itself x (subst T (sym h) tt))) refl

pub no_nan : (x : Float) → ne x x ≡ false → T (not (is_nan x))
unfolding ne eq is_nan
no_nan nan h = no' h
no_nan (inf s) h = tt
no_nan (fin s m e) h = tt

is-nan : (x : Float) → is_nan x ≡ true → x ≡ nan
unfolding is_nan
is-nan nan h = refl
is-nan (inf s) h = no h
is-nan (fin s m e) h = no h

pub zero_by_zero : div binary64 (of_bits binary64 0) (of_bits binary64 0) ≡ nan
unfolding div of_bits
zero_by_zero = refl

pub from-nan : (b : ℕ) → 0x7ff0_0000_0000_0000 < b % 0x8000_0000_0000_0000 → div binary64 (of_bits binary64 0) (of_bits binary64 0) ≡ of_bits binary64 b
from-nan b h = zero_by_zero ∙ sym (is-nan (of_bits binary64 b) (sym (nan_bits_is binary64 b) ∙ nan_bits_above binary64 b ∙ lt-ltb _ _ h))

pub from-no-nan : (b : ℕ) → b % 0x8000_0000_0000_0000 ≤ 0x7ff0_0000_0000_0000 → T (not (nan_bits binary64 b))
from-no-nan b h = subst (λ (t : Bool). T (not t)) (sym (nan_bits_above binary64 b ∙ le-ltb _ _ h)) tt

-- ---- whole
pub not-above : (x : Float) → lt (neg (of_bits binary64 0x3ff0_0000_0000_0000)) x ≡ false → 0 ≡ to_unsigned 64 x
unfolding lt neg of_bits to_unsigned
not-above nan h = refl
not-above (inf true) h = refl
not-above (inf false) h = no' h
not-above (fin true m e) h = refl
not-above (fin false m e) h = absurd (omega (arith, ltb-false 0 (1 * 1 * down e + m * up e * 1) h, down_pos e))

pub not-below : (x : Float) → lt (neg (of_bits binary64 0x3ff0_0000_0000_0000)) x ≡ true → lt x (of_bits binary64 0x43f0_0000_0000_0000) ≡ false → 0xffff_ffff_ffff_ffff ≡ to_unsigned 64 x
unfolding lt neg of_bits to_unsigned
not-below nan h k = no h
not-below (inf true) h k = no h
not-below (inf false) h k = refl
not-below (fin true m e) h k = absurd (omega (arith, ltb-false 0 (m * up e * 1 + 1 * 2 ^ 64 * down e) k, down_pos e))
not-below (fin false m e) h k =
    let l : 0xffff_ffff_ffff_ffff * down e ≤ m * up e = omega (arith, ltb-false (m * up e * 1) (1 * 2 ^ 64 * down e) k) in
    sym (min-eq_right ((le-div_iff_mul-le (down_pos e)).1 l))

-- ---- abs, by the pattern
signs-alike : (m : ℕ) (e : ℤ) → T (fits binary64 (fin false m e)) → T (fits binary64 (fin true m e))
unfolding fits
signs-alike zero e t = t
signs-alike (suc m) e t = t

mag-fits : (x : Float) → T (fits binary64 x) → T (fits binary64 (mag x))
unfolding fits mag
mag-fits nan t = tt
mag-fits (inf s) t = tt
mag-fits (fin s zero e) t = t
mag-fits (fin s (suc m) e) t = t

top-and : (a b : ℕ) → 0x8000_0000_0000_0000 + a + b < 2 * 0x8000_0000_0000_0000 → (0x8000_0000_0000_0000 + a + b) % 0x8000_0000_0000_0000 ≡ 0 + a + b
top-and a b h = omega arith

no_top : (a b : ℕ) → 0x8000_0000_0000_0000 + a + b < 2 * 0x8000_0000_0000_0000 → (0 + a + b) % 0x8000_0000_0000_0000 ≡ 0 + a + b
no_top a b h = omega arith

clear-sign : (x : Float) → T (fits binary64 x) → to_bits binary64 x % 0x8000_0000_0000_0000 ≡ to_bits binary64 (mag x)
unfolding to_bits mag
clear-sign nan t = refl
clear-sign (inf true) t = refl
clear-sign (inf false) t = refl
clear-sign (fin true m e) t = top-and _ _ (to_bits-lt binary64 (fin true m e) t)
clear-sign (fin false m e) t = no_top _ _ (to_bits-lt binary64 (fin true m e) (signs-alike m e t))

-- ---- the sign turned, by the pattern
drop-top : (a b : ℕ) → turn_sign (0x8000_0000_0000_0000 + a + b) ≡ 0 + a + b
drop-top a b = rw (le-ltb (0x8000_0000_0000_0000 + a + b) 0x8000_0000_0000_0000 (omega arith)) (omega arith)

put-top : (a b : ℕ) → 0x8000_0000_0000_0000 + a + b < 2 * 0x8000_0000_0000_0000 → turn_sign (0 + a + b) ≡ 0x8000_0000_0000_0000 + a + b
put-top a b h = rw (lt-ltb (0 + a + b) 0x8000_0000_0000_0000 (omega arith)) (omega arith)

neg-fits : (x : Float) → T (fits binary64 x) → T (fits binary64 (neg x))
unfolding fits neg
neg-fits nan t = tt
neg-fits (inf s) t = tt
neg-fits (fin s zero e) t = t
neg-fits (fin s (suc m) e) t = t

turned-fin : (s : Bool) (m : ℕ) (e : ℤ) → T (fits binary64 (fin s m e)) → turn_sign (to_bits binary64 (fin s m e)) ≡ to_bits binary64 (fin (not s) m e)
unfolding to_bits
turned-fin true m e t = drop-top _ _
turned-fin false m e t = put-top _ _ (to_bits-lt binary64 (fin true m e) (signs-alike m e t))

pub sign-turned : (x : Float) → T (fits binary64 x) → of_bits binary64 (turn_sign (to_bits binary64 x)) ≡ neg x
unfolding neg
sign-turned nan t = unfold of_bits to_bits in refl
sign-turned (inf true) t = unfold of_bits to_bits in refl
sign-turned (inf false) t = unfold of_bits to_bits in refl
sign-turned (fin s m e) t = ap (λ (n : ℕ). of_bits binary64 n) (turned-fin s m e t) ∙ of_bits-to_bits binary64 (fin (not s) m e) (neg-fits (fin s m e) t)

pub abs-nan : (x : Float) → ne x x ≡ true → x ≡ mag x
unfolding mag
abs-nan x h = let e : x ≡ nan = differs_from_itself x (subst T (sym h) tt) in subst (λ (y : Float). y ≡ mag y) (sym e) refl

pub abs-bits : (x : Float) → T (fits binary64 x) → of_bits binary64 (to_bits binary64 x % 0x8000_0000_0000_0000) ≡ mag x
abs-bits x t = ap (λ (n : ℕ). of_bits binary64 n) (clear-sign x t) ∙ of_bits-to_bits binary64 (mag x) (mag-fits x t)

mag-nan : (x : Float) → T (not (is_nan x)) → T (not (is_nan (mag x)))
unfolding is_nan mag
mag-nan nan t = t
mag-nan (inf s) t = tt
mag-nan (fin s m e) t = tt

pub abs-no-nan : (x : Float) → T (fits binary64 x) → ne x x ≡ false → T (not (nan_bits binary64 (to_bits binary64 x % 0x8000_0000_0000_0000)))
abs-no-nan x t h = subst (λ (b : Bool). T (not b)) (sym (nan_bits_is binary64 _ ∙ ap is_nan (abs-bits x t))) (mag-nan x (no_nan x h))
