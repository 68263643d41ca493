-- The remainder of two doubles by their significands, which are whole numbers; and where there is nothing to compute. Assumes nothing.
use Rattle.std.proofs.Common.{◌≡◌, ℕ, zero, suc, ◌+◌, ◌-◌, ◌*◌, ◌/◌, ◌%◌, ◌^◌, ◌<◌, ◌≤◌, Bool, true, false, cond, ◌&&◌, ◌||◌, T, eqb, leb, pos, sym, refl, ap, ◌∙◌, subst, le_trans, le_of_eq, lt_of_lt_of_le, mod-lt, mod-eq_of_lt, mul_assoc, zero-mul, mul-le-mul_right, mul-lt-mul_of_pos_right, pow-add, arith, pow_pos, eqb→eq, eq-eqb, ne_eqb, mul-pos, le-leb}
use Rattle.std.proofs.lemmas.Bool.{lt-leb}
use native.Mathlib.Nat.{eq_of_mul-eq-mul_right}
use mathlib.Core.Bool.{beq}
use lib.Pow.{pow_mono}
use lib.Ieee.{Float, nan, inf, fin, binary64, low, up, down, to_bits, of_bits, of_int, round, neg, mul, rem, eq, ne, fits}
use lib.Ieee.Compare.{differs_from_itself}
use lib.Ieee.Exact.{HasValue}
use lib.Ieee.Fits.{up_pos}
use Rattle.float.specs.Double.{lit, is_finite, field, sign, significand, places, power_of}
use Rattle.float.proofs.Rem.{scaled-mod}
use Rattle.float.proofs.Sign.{round-neg}
use Rattle.float.proofs.Units.{negative, own-units, rem-units, own-round, scaled}

-- ---- nothing to compute
no : {A : Type 0} → false ≡ true → A
no h = absurd (subst T (sym h) tt)

no' : {A : Type 0} → true ≡ false → A
no' h = absurd (subst T h tt)

-- of a NaN or an infinity
pub rem-of-no_number : (x y : Float) → is_finite x ≡ false → nan ≡ rem binary64 x y
unfolding rem
rem-of-no_number nan y h = refl
rem-of-no_number (inf s) y h = refl
rem-of-no_number (fin s m e) y h = no' h

-- by a NaN
pub rem-by-nan : (x y : Float) → ne y y ≡ true → nan ≡ rem binary64 x y
unfolding rem
rem-by-nan x y h = subst (λ (z : Float). nan ≡ rem binary64 x z) (sym (differs_from_itself y (subst T (sym h) tt))) (go x)
  where
    go : (x : Float) → nan ≡ rem binary64 x nan
    go nan = refl
    go (inf s) = refl
    go (fin s m e) = refl

left_true : (a b : Bool) → a && b ≡ true → a ≡ true
left_true true b h = refl
left_true false b h = h

zero-factor : (m u : ℕ) → 0 < u → m * u ≡ 0 → m ≡ 0
zero-factor m u h e = eq_of_mul-eq-mul_right u h m 0 (e ∙ sym (zero-mul u))

-- by a zero of either sign
pub rem-by-zero : (x y : Float) → eq y (lit 0) ≡ true → nan ≡ rem binary64 x y
unfolding rem eq of_bits
rem-by-zero x nan h = no h
rem-by-zero x (inf t) h = no h
rem-by-zero nan (fin t n d) h = refl
rem-by-zero (inf s) (fin t n d) h = refl
rem-by-zero (fin s m e) (fin t n d) h =
    let a : n * up d * 1 ≡ 0 * 1 * down d = eqb→eq (n * up d * 1) (0 * 1 * down d) (subst T (sym (left_true (eqb (n * up d * 1) (0 * 1 * down d)) (beq t false || eqb (n * up d * 1) 0) h)) tt) in
    let b : n ≡ 0 = zero-factor n (up d) (up_pos d) (omega (arith, a, zero-mul (down d))) in
    rw (eq-eqb n 0 b) refl

-- of a finite value by an infinity
pub rem-by-infinity : (x y : Float) → is_finite x ≡ true → ne y y ≡ false → is_finite y ≡ false → x ≡ rem binary64 x y
unfolding rem ne eq
rem-by-infinity nan y h g k = no h
rem-by-infinity (inf s) y h g k = no h
rem-by-infinity (fin s m e) nan h g k = no' g
rem-by-infinity (fin s m e) (inf t) h g k = refl
rem-by-infinity (fin s m e) (fin t n d) h g k = no' k

-- ---- significands and places
-- a significand has at most 53 digits
with-digit : (r : ℕ) (c : Bool) → r < 2 ^ 52 → r + cond c 0 (2 ^ 52) < 2 ^ 53
with-digit r true h = omega arith
with-digit r false h = omega arith

pub significand-lt : (x : Float) → significand x < 2 ^ 53
significand-lt x = with-digit (to_bits binary64 x % 2 ^ 52) (eqb (field x) 0) (mod-lt (to_bits binary64 x) (pow_pos 52))

-- a value whose significand is doubled has the leading digit
leading : (r f : ℕ) → 0 < f - 1 → 2 ^ 52 ≤ r + cond (eqb f 0) 0 (2 ^ 52)
leading r f h = rw (ne_eqb f 0 (λ e. absurd (omega arith))) (omega arith)

pub significand-ge : (x : Float) → 0 < places x → 2 ^ 52 ≤ significand x
significand-ge x h = leading (to_bits binary64 x % 2 ^ 52) (field x) h

-- the largest value has 2045 places
pub places-lt : (x : Float) → places x < 2047
places-lt x = under (to_bits binary64 x)
  where
    under : (b : ℕ) → b % 2 ^ 63 / 2 ^ 52 - 1 < 2047
    under b = omega arith

-- of a value other than zero it is positive
zero-value : (y : Float) (s : Bool) (l : ℕ) → 0 < l → HasValue y s 0 l → eq y (lit 0) ≡ true
unfolding eq of_bits
zero-value nan s l L v = absurd v
zero-value (inf t) s l L v = absurd v
zero-value (fin t n d) s l L v =
    let a : n * up d * 1 ≡ 0 = omega (arith, zero-factor (n * up d) l L (v.1 ∙ zero-mul (down d))) in
    let b : n * up d * 1 ≡ 0 * 1 * down d = omega (arith, a, zero-mul (down d)) in
    rw (eq-eqb (n * up d * 1) (0 * 1 * down d) b, eq-eqb (n * up d * 1) 0 a) (or-true (beq t false))
  where
    or-true : (b : Bool) → b || true ≡ true
    or-true true = refl
    or-true false = refl

pub significand-pos : (y : Float) → T (fits binary64 y) → T (is_finite y) → eq y (lit 0) ≡ false → 0 < significand y
significand-pos y t h z = go (significand y) (own-units y t h)
  where
    go : (q : ℕ) → HasValue y (negative y) (q * 2 ^ places y) (2 ^ low binary64) → 0 < q
    go zero v = no' (sym (zero-value y _ (2 ^ low binary64) (pow_pos (low binary64)) (subst (λ (a : ℕ). HasValue y (negative y) a (2 ^ low binary64)) (zero-mul (2 ^ places y)) v)) ∙ z)
    go (suc q) v = omega arith

-- ---- the remainder of p * 2 ^ i by q * 2 ^ j: the doublings that both have stand outside of it
mod-high : (p q i j : ℕ) → 0 < q → j ≤ i → p * 2 ^ i % (q * 2 ^ j) ≡ p * 2 ^ (i - j) % q * 2 ^ j
mod-high p q i j Q h =
    let e : i ≡ (i - j) + j = omega arith in
    ap (λ (z : ℕ). z % (q * 2 ^ j)) (ap (λ (k : ℕ). p * 2 ^ k) e ∙ ap (λ (k : ℕ). p * k) (pow-add 2 (i - j) j) ∙ sym (mul_assoc p (2 ^ (i - j)) (2 ^ j)))
    ∙ scaled-mod (p * 2 ^ (i - j)) q (2 ^ j) Q (pow_pos j)

-- a number with fewer doublings is the smaller, where the other has its leading digit
mod-low : (p q i j : ℕ) → p < 2 ^ 53 → 2 ^ 52 ≤ q → i < j → p * 2 ^ i % (q * 2 ^ j) ≡ p * 2 ^ i
mod-low p q i j P Q h =
    mod-eq_of_lt
    (lt_of_lt_of_le (mul-lt-mul_of_pos_right P (pow_pos i))
    (le_trans (le_of_eq (sym (pow-add 2 53 i)))
    (le_trans (pow_mono (reach i j h)) (le_trans (le_of_eq (pow-add 2 52 j)) (mul-le-mul_right (2 ^ j) Q)))))
  where
    reach : (i j : ℕ) → i < j → 53 + i ≤ 52 + j
    reach i j h = omega arith

-- two finite values, the second not 0
pub record Pair (x y : Float) : Type 0 where
  pub x-fits : T (fits binary64 x)
  pub y-fits : T (fits binary64 y)
  pub x-finite : T (is_finite x)
  pub y-finite : T (is_finite y)
  pub y-not-zero : eq y (lit 0) ≡ false

-- their remainder, in units of the smallest value
in-units : (x y : Float) → Pair x y → rem binary64 x y ≡ round binary64 (negative x) (significand x * 2 ^ places x % (significand y * 2 ^ places y)) (2 ^ low binary64)
in-units x y h =
    rem-units binary64 x y (negative x) (negative y) (significand x * 2 ^ places x) (significand y * 2 ^ places y) (2 ^ low binary64)
    (pow_pos (low binary64)) (mul-pos (significand-pos y h.y-fits h.y-finite h.y-not-zero) (pow_pos (places y))) (own-units x h.x-fits h.x-finite) (own-units y h.y-fits h.y-finite)

-- x has fewer places: it is smaller than y
pub rem-below : (x y : Float) → Pair x y → places x < places y → x ≡ rem binary64 x y
rem-below x y h l =
    let g : 0 < places y = omega arith in
    sym (in-units x y h
    ∙ ap (λ (z : ℕ). round binary64 (negative x) z (2 ^ low binary64)) (mod-low (significand x) (significand y) (places x) (places y) (significand-lt x) (significand-ge y g) l)
    ∙ own-round binary64 x (negative x) (significand x * 2 ^ places x) (2 ^ low binary64) h.x-fits (pow_pos (low binary64)) (own-units x h.x-fits h.x-finite))

-- x has as many places or more: by the significands
pub rem-above : (x y : Float) → Pair x y → places y ≤ places x
    → rem binary64 x y ≡ round binary64 (negative x) (significand x * 2 ^ (places x - places y) % significand y * 2 ^ places y) (2 ^ low binary64)
rem-above x y h l =
    in-units x y h
    ∙ ap (λ (z : ℕ). round binary64 (negative x) z (2 ^ low binary64)) (mod-high (significand x) (significand y) (places x) (places y) (significand-pos y h.y-fits h.y-finite h.y-not-zero) l)

-- ---- what the code computes: what is left of the significands, as a double, in units of y's last place
abbrev pub left_over : Float → Float → ℕ
left_over x y = significand x * 2 ^ (places x - places y) % significand y

abbrev pub left_size : Float → Float → Float
left_size x y = mul binary64 (of_int binary64 (pos (left_over x y))) (power_of (places y))

-- the product is the remainder's size
size-is : (x y : Float) → Pair x y → left_size x y ≡ round binary64 false (left_over x y * 2 ^ places y) (2 ^ low binary64)
size-is x y h =
    let a : left_over x y < significand y = mod-lt (significand x * 2 ^ (places x - places y)) (significand-pos y h.y-fits h.y-finite h.y-not-zero) in
    scaled (left_over x y) (places y) (within (left_over x y) (significand y) a (significand-lt y)) (places-lt y)
  where
    within : (r q : ℕ) → r < q → q < 2 ^ 53 → r ≤ 2 ^ 53
    within r q a b = omega arith

-- the sign, as the code reads it
no-sign : (b : ℕ) → b / 2 ^ 63 ≡ 0 → leb (2 ^ 63) b ≡ false
no-sign b h = lt-leb (2 ^ 63) b (omega arith)

has-sign : (b : ℕ) → (b / 2 ^ 63 ≡ 0 → ⊥) → leb (2 ^ 63) b ≡ true
has-sign b h = le-leb (2 ^ 63) b (omega arith)

-- of an x without a sign the product is the remainder
pub rem-plain : (x y : Float) → Pair x y → places y ≤ places x → sign x ≡ 0 → left_size x y ≡ rem binary64 x y
rem-plain x y h l s =
    size-is x y h
    ∙ ap (λ (b : Bool). round binary64 b (left_over x y * 2 ^ places y) (2 ^ low binary64)) (sym (no-sign (to_bits binary64 x) s))
    ∙ sym (rem-above x y h l)

-- and of one with a sign its negative
pub rem-negative : (x y : Float) → Pair x y → places y ≤ places x → (sign x ≡ 0 → ⊥) → neg (left_size x y) ≡ rem binary64 x y
rem-negative x y h l s =
    ap neg (size-is x y h)
    ∙ round-neg binary64 false (left_over x y * 2 ^ places y) (2 ^ low binary64)
    ∙ ap (λ (b : Bool). round binary64 b (left_over x y * 2 ^ places y) (2 ^ low binary64)) (sym (has-sign (to_bits binary64 x) s))
    ∙ sym (rem-above x y h l)
