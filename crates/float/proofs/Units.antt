-- Doubles in units of the smallest one, 2 ^ -1074: what a finite value's pattern says of it, products and remainders by such numbers. Assumes nothing.
use Rattle.std.proofs.Common.{◌≡◌, ℕ, zero, suc, ◌+◌, ◌-◌, ◌*◌, ◌/◌, ◌%◌, ◌^◌, ◌<◌, ◌≤◌, Bool, true, false, cond, T, eqb, ltb, leb, pos, sym, refl, ap, ◌∙◌, subst, add-zero, add_comm, mul_assoc, mul_comm, mul-pos, one-mul, zero-mul, mul_left_comm, mul_right_comm, pow-add, arith, pow_pos, ne_eqb, ltb-true, ltb-false}
use Rattle.std.proofs.lemmas.Bool.{lt-leb}
use lib.Pow.{pow-lt}
use lib.Ieee.{Float, nan, inf, fin, Format, binary64, prec, low, hid, ones, top, up, down, odd, of_fields, of_bits, to_bits, of_int, round, mul, rem, fits, unlike}
use lib.Ieee.Back.{round_whole}
use lib.Ieee.Bits.{of_bits-to_bits}
use lib.Ieee.Fits.{down_pos}
use lib.Ieee.Exact.{HasValue, odd_sign}
use lib.Ieee.Scale.{round_same}
use Rattle.float.specs.Double.{lit, is_finite, significand, places, power_of}
use Rattle.float.proofs.Rem.{scaled-mod}
use Rattle.float.proofs.Own.{round-own}

-- ---- a pattern's fields, as a number of units
drop-one : (k : ℕ) → suc k - 1 ≡ k
drop-one k = omega arith

not-zero : (k : ℕ) → suc k ≡ 0 → ⊥
not-zero k h = omega arith

-- a finite value of the sign s, the exponent's field e and the digits t
fields-value : (f : Format) (s : Bool) (e t : ℕ) → T (is_finite (of_fields f s e t)) → HasValue (of_fields f s e t) s ((t + cond (eqb e 0) 0 (hid f)) * 2 ^ (e - 1)) (2 ^ low f)
unfolding of_fields
fields-value f s zero t h = subst (λ (z : ℕ). HasValue (odd (prec f) s t 0 (low f)) s (z * 2 ^ 0) (2 ^ low f)) (sym (add-zero t)) (odd_sign (prec f) s t 0 (low f))
fields-value f s (suc k) t h =
    let a : (t + cond (eqb (suc k) 0) 0 (hid f)) * 2 ^ (suc k - 1) ≡ (hid f + t) * 2 ^ k =
    ap (λ (b : Bool). (t + cond b 0 (hid f)) * 2 ^ (suc k - 1)) (ne_eqb (suc k) 0 (not-zero k)) ∙ ap (λ (z : ℕ). (t + hid f) * 2 ^ z) (drop-one k) ∙ ap (λ (z : ℕ). z * 2 ^ k) (add_comm t (hid f)) in
    go (eqb (suc k) (ones f)) (eqb t 0) h a
  where
    go : (b c : Bool) → T (is_finite (cond b (cond c (inf s) nan) (odd (prec f) s (hid f + t) k (low f)))) → {n : ℕ} → n ≡ (hid f + t) * 2 ^ k
        → HasValue (cond b (cond c (inf s) nan) (odd (prec f) s (hid f + t) k (low f))) s n (2 ^ low f)
    go true true g e = absurd g
    go true false g e = absurd g
    go false c g e = subst (λ (z : ℕ). HasValue (odd (prec f) s (hid f + t) k (low f)) s z (2 ^ low f)) (sym e) (odd_sign (prec f) s (hid f + t) k (low f))

-- the same of a pattern
bits-value : (b : ℕ) → T (is_finite (of_bits binary64 b))
    → HasValue (of_bits binary64 b) (leb (top binary64) b) ((b % hid binary64 + cond (eqb (b % top binary64 / hid binary64) 0) 0 (hid binary64)) * 2 ^ (b % top binary64 / hid binary64 - 1)) (2 ^ low binary64)
unfolding of_bits
bits-value b h = fields-value binary64 (leb (top binary64) b) (b % top binary64 / hid binary64) (b % hid binary64) h

-- whether the pattern has the sign's bit
abbrev pub negative : Float → Bool
negative x = leb 0x8000_0000_0000_0000 (to_bits binary64 x)

-- a finite value is its significand, doubled as many times as it has places, in units of the smallest value
pub own-units : (x : Float) → T (fits binary64 x) → T (is_finite x) → HasValue x (negative x) (significand x * 2 ^ places x) (2 ^ low binary64)
own-units x t h =
    let e : of_bits binary64 (to_bits binary64 x) ≡ x = of_bits-to_bits binary64 x t in
    subst (λ (y : Float). HasValue y (negative x) (significand x * 2 ^ places x) (2 ^ low binary64)) e
    (bits-value (to_bits binary64 x) (subst (λ (y : Float). T (is_finite y)) (sym e) h))

-- ---- products and remainders
-- a product is rounded from any two fractions that equal its factors
pub mul-units : (f : Format) (x y : Float) (a b c d : ℕ) → 0 < c → 0 < d → HasValue x false a c → HasValue y false b d → mul f x y ≡ round f false (a * b) (c * d)
unfolding mul
mul-units f nan y a b c d C D p q = absurd p
mul-units f (inf s) y a b c d C D p q = absurd p
mul-units f (fin s m e) nan a b c d C D p q = absurd q
mul-units f (fin s m e) (inf t) a b c d C D p q = absurd q
mul-units f (fin s m e) (fin t n g) a b c d C D p q =
    ap (λ (u : Bool). round f u (m * up e * (n * up g)) (down e * down g)) (ap (λ (u : Bool). unlike u t) p.0 ∙ ap (λ (u : Bool). unlike false u) q.0)
    ∙ round_same f false (m * up e * (n * up g)) (down e * down g) (a * b) (c * d) (mul-pos (down_pos e) (down_pos g)) (mul-pos C D)
    (cross (m * up e) (n * up g) c d ∙ ap (λ (z : ℕ). z * (n * up g * d)) p.1 ∙ ap (λ (z : ℕ). a * down e * z) q.1 ∙ sym (cross a b (down e) (down g)))
  where
    cross : (x y c d : ℕ) → x * y * (c * d) ≡ x * c * (y * d)
    cross x y c d = simp (mul_assoc, mul_left_comm)

-- a remainder is rounded from that of the numbers of units
pub rem-units : (f : Format) (x y : Float) (s t : Bool) (a b l : ℕ) → 0 < l → 0 < b → HasValue x s a l → HasValue y t b l → rem f x y ≡ round f s (a % b) l
unfolding rem
rem-units f nan y s t a b l L B p q = absurd p
rem-units f (inf u) y s t a b l L B p q = absurd p
rem-units f (fin u m e) nan s t a b l L B p q = absurd q
rem-units f (fin u m e) (inf v) s t a b l L B p q = absurd q
rem-units f (fin u m e) (fin v n g) s t a b l L B p q =
    let c : ℕ = down e * down g in
    let C : 0 < c = mul-pos (down_pos e) (down_pos g) in
    let x : m * up e * down g * l ≡ a * c = mul_right_comm (m * up e) (down g) l ∙ ap (λ (z : ℕ). z * down g) p.1 ∙ mul_assoc a (down e) (down g) in
    let y : n * up g * down e * l ≡ b * c = mul_right_comm (n * up g) (down e) l ∙ ap (λ (z : ℕ). z * down e) q.1 ∙ mul_assoc b (down g) (down e) ∙ ap (λ (z : ℕ). b * z) (mul_comm (down g) (down e)) in
    let Q : 0 < n * up g * down e = first_pos (n * up g * down e) l (b * c) y (mul-pos B C) in
    ap (λ (z : Bool). cond z nan (round f u (m * up e * down g % (n * up g * down e)) c)) (ne_eqb n 0 (λ z. no_zero n (up g) (down e) Q z))
    ∙ ap (λ (z : Bool). round f z (m * up e * down g % (n * up g * down e)) c) p.0
    ∙ round_same f s (m * up e * down g % (n * up g * down e)) c (a % b) l C L
    (sym (scaled-mod (m * up e * down g) (n * up g * down e) l Q L) ∙ ap (λ (z : ℕ). z % (n * up g * down e * l)) x ∙ ap (λ (z : ℕ). a * c % z) y ∙ scaled-mod a b c B C)
  where
    no_zero : (n u d : ℕ) → 0 < n * u * d → n ≡ 0 → ⊥
    no_zero n u d h z = omega (arith, rw z at h, zero-mul u, zero-mul d)

    first_pos : (x l z : ℕ) → x * l ≡ z → 0 < z → 0 < x
    first_pos zero l z e h = absurd (omega (arith, zero-mul l))
    first_pos (suc x) l z e h = omega arith

-- a fraction that equals a value of the format rounds to it
pub own-round : (f : Format) (x : Float) (s : Bool) (a l : ℕ) → T (fits f x) → 0 < l → HasValue x s a l → round f s a l ≡ x
own-round f nan s a l t L v = absurd v
own-round f (inf u) s a l t L v = absurd v
own-round f (fin u m e) s a l t L v =
    ap (λ (z : Bool). round f z a l) (sym v.0) ∙ round_same f u a l (m * up e) (down e) L (down_pos e) (sym v.1) ∙ round-own f u m e t

-- ---- the powers of two
-- with an exponent's field below the highest a value is finite
finite-odd : (d : ℕ) (s : Bool) (q k l : ℕ) → T (is_finite (odd d s q k l))
unfolding odd
finite-odd d s zero k l = tt
finite-odd d s (suc q) k l = tt

finite-fields : (f : Format) (s : Bool) (e t : ℕ) → e < ones f → T (is_finite (of_fields f s e t))
unfolding of_fields
finite-fields f s zero t h = finite-odd (prec f) s t 0 (low f)
finite-fields f s (suc k) t h = subst (λ (b : Bool). T (is_finite (cond b (cond (eqb t 0) (inf s) nan) (odd (prec f) s (hid f + t) k (low f))))) (sym (ne_eqb (suc k) (ones f) (λ e. below k (ones f) h e))) (finite-odd (prec f) s (hid f + t) k (low f))
  where
    below : (k o : ℕ) → suc k < o → suc k ≡ o → ⊥
    below k o h e = omega arith

-- the pattern with no sign, of the exponent's field e and the digits t
plain-fields : (b e t : ℕ) → b ≡ e * 2 ^ 52 + t → e < 2047 → t < 2 ^ 52 → of_bits binary64 b ≡ of_fields binary64 false e t
unfolding of_bits
plain-fields b e t h E T =
    let s : leb (2 ^ 63) b ≡ false = low-pattern b (omega arith) in
    let i : b % 2 ^ 63 / 2 ^ 52 ≡ e = omega arith in
    let j : b % 2 ^ 52 ≡ t = omega arith in
    rw (s, i, j) refl
  where
    low-pattern : (b : ℕ) → b < 2 ^ 63 → leb (2 ^ 63) b ≡ false
    low-pattern b h = lt-leb (2 ^ 63) b h

-- the unit, doubled j times, is 2 ^ j units
pub power-value : (j : ℕ) → j < 2047 → HasValue (power_of j) false (2 ^ j) (2 ^ low binary64)
power-value j h = go (ltb j 52) refl
  where
    few : ltb j 52 ≡ true → HasValue (lit (2 ^ j)) false (2 ^ j) (2 ^ low binary64)
    few l =
        let t : 2 ^ j < 2 ^ 52 = pow-lt (ltb-true j 52 l) in
        let p : of_bits binary64 (2 ^ j) ≡ of_fields binary64 false 0 (2 ^ j) = plain-fields (2 ^ j) 0 (2 ^ j) (omega arith) (omega arith) t in
        subst (λ (y : Float). HasValue y false (2 ^ j) (2 ^ low binary64)) (sym p)
        (subst (λ (z : ℕ). HasValue (of_fields binary64 false 0 (2 ^ j)) false z (2 ^ low binary64)) (times-one (2 ^ j))
        (fields-value binary64 false 0 (2 ^ j) (finite-fields binary64 false 0 (2 ^ j) (omega arith))))
      where
        times-one : (z : ℕ) → (z + 0) * 1 ≡ z
        times-one z = omega arith

    many : ltb j 52 ≡ false → HasValue (lit ((j - 51) * 2 ^ 52)) false (2 ^ j) (2 ^ low binary64)
    many l =
        let g : 52 ≤ j = ltb-false j 52 l in
        let i : j ≡ 52 + (j - 52) = omega arith in
        let e : j - 51 ≡ suc (j - 52) = omega arith in
        let p : of_bits binary64 ((j - 51) * 2 ^ 52) ≡ of_fields binary64 false (suc (j - 52)) 0 = plain-fields ((j - 51) * 2 ^ 52) (suc (j - 52)) 0 (omega arith) (omega arith) (omega arith) in
        subst (λ (y : Float). HasValue y false (2 ^ j) (2 ^ low binary64)) (sym p)
        (subst (λ (z : ℕ). HasValue (of_fields binary64 false (suc (j - 52)) 0) false z (2 ^ low binary64)) (value (j - 52) ∙ ap (λ (z : ℕ). 2 ^ z) (sym i))
        (fields-value binary64 false (suc (j - 52)) 0 (finite-fields binary64 false (suc (j - 52)) 0 (omega arith))))
      where
        value : (k : ℕ) → (0 + cond (eqb (suc k) 0) 0 (2 ^ 52)) * 2 ^ (suc k - 1) ≡ 2 ^ (52 + k)
        value k = ap (λ (b : Bool). (0 + cond b 0 (2 ^ 52)) * 2 ^ (suc k - 1)) (ne_eqb (suc k) 0 (not-zero k)) ∙ ap (λ (z : ℕ). 2 ^ 52 * 2 ^ z) (drop-one k) ∙ sym (pow-add 2 52 k)

    go : (b : Bool) → ltb j 52 ≡ b → HasValue (cond b (lit (2 ^ j)) (lit ((j - 51) * 2 ^ 52))) false (2 ^ j) (2 ^ low binary64)
    go true l = few l
    go false l = many l

-- a whole number of at most 53 digits times such a power
pub scaled : (n j : ℕ) → n ≤ 2 ^ 53 → j < 2047 → mul binary64 (of_int binary64 (pos n)) (power_of j) ≡ round binary64 false (n * 2 ^ j) (2 ^ low binary64)
unfolding of_int
scaled n j h g =
    mul-units binary64 (round binary64 false n 1) (power_of j) n (2 ^ j) 1 (2 ^ low binary64) (omega arith) (pow_pos (low binary64)) (round_whole binary64 false n h) (power-value j g)
    ∙ ap (λ (z : ℕ). round binary64 false (n * 2 ^ j) z) (one-mul (2 ^ low binary64))
