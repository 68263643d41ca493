-- The digits and the exponent of a subnormal, at which the loop of `root_small` ends, and those of a normal pattern: so `Value.antt` says of the root of every finite double above 0 between which squares it lies. Assumes nothing.
use Rattle.std.proofs.Common.{◌≡◌, ℕ, zero, suc, ◌+◌, ◌-◌, ◌*◌, ◌/◌, ◌%◌, ◌^◌, ◌<◌, ◌≤◌, Bool, true, false, not, ◌&&◌, ◌||◌, T, eqb, ltb, leb, sym, refl, ap, ◌∙◌, subst, le_trans, le_of_eq, lt_of_lt_of_le, mul-le-mul_right, mul_assoc, mul_comm, mul-lt-mul_of_pos_right, mul-pos, pow-suc, zero-mul, mul-one, arith, pow_pos, pow-add, ltb-false, ltb-true, le-ltb, lt-ltb, eq-eqb, ne_eqb}
use borrow.Author.Tests.{lt-leb}
use lib.Ieee.{Float, nan, inf, fin, binary64, up, down, eq, ne, lt, of_fields, of_bits, to_bits, is_nan, fits, size}
use lib.Ieee.Digits.{size-lt, size_reaches, size-le}
use lib.Ieee.Fits.{down_pos}
use lib.Ieee.Bits.{to_bits-of_bits, of_bits-to_bits}
use lib.Ieee.Exact.{HasValue, odd_sign}
use Rattle.float.specs.Double.{lit}
use Rattle.root.specs.Root.{root_at, root_bits, root_of}
use Rattle.root.proofs.Value.{Bracket, root-is-nearest, val, bits_is}

-- ---- a subnormal's digits
abbrev pub filled : ℕ → ℕ
filled b = b * 2 ^ (53 - size b)

size-pos : (b : ℕ) → 0 < b → 0 < size b
size-pos b B = go (size b) (size-lt b)
  where
    go : (n : ℕ) → b < 2 ^ n → 0 < n
    go zero h = absurd (omega arith)
    go (suc n) h = omega arith

pub filled-ge : (b : ℕ) → 0 < b → b < 2 ^ 52 → 2 ^ 52 ≤ filled b
filled-ge b B h = least (size b) (size-pos b B) (size-le b 52 h) (size_reaches b (size b - 1) (below (size b) (size-pos b B)))
  where
    below : (n : ℕ) → 0 < n → n - 1 < n
    below n p = omega arith

    least : (n : ℕ) → 0 < n → n ≤ 52 → 2 ^ (n - 1) ≤ b → 2 ^ 52 ≤ b * 2 ^ (53 - n)
    least n p l g =
        let e : 52 ≡ n - 1 + (53 - n) = omega arith in
        le_trans (le_of_eq (ap (λ (k : ℕ). 2 ^ k) e ∙ pow-add 2 (n - 1) (53 - n))) (mul-le-mul_right (2 ^ (53 - n)) g)

pub filled-lt : (b : ℕ) → b < 2 ^ 52 → filled b < 2 ^ 53
filled-lt b h = most (size b) (size-le b 52 h) (size-lt b)
  where
    most : (n : ℕ) → n ≤ 52 → b < 2 ^ n → b * 2 ^ (53 - n) < 2 ^ 53
    most n l g =
        let e : n + (53 - n) ≡ 53 = omega arith in
        lt_of_lt_of_le (mul-lt-mul_of_pos_right g (pow_pos (53 - n))) (le_of_eq (sym (pow-add 2 n (53 - n)) ∙ ap (λ (k : ℕ). 2 ^ k) e))

-- ---- the loop: d doublings are to come
pub record Doubling (s p c x : ℕ) : Type 0 where
  pub d : ℕ
  pub is : c * 2 ^ d ≡ s
  pub at : x ≡ p + d

pub doubling-start : (b : ℕ) → b < 2 ^ 52 → Doubling (filled b) (size b + 1023) b 1076
doubling-start b h = record { d = 53 - size b; is = refl; at = count (size b) (size-le b 52 h) }
  where
    count : (n : ℕ) → n ≤ 52 → 1076 ≡ n + 1023 + (53 - n)
    count n l = omega arith

pub doubling-step : (s p c x : ℕ) → 2 ^ 52 ≤ s → Doubling s p c x → c < 2 ^ 52 → Doubling s p (c * 2) (x - 1)
doubling-step s p c x g w l = go w.d w.is w.at
  where
    go : (d : ℕ) → c * 2 ^ d ≡ s → x ≡ p + d → Doubling s p (c * 2) (x - 1)
    go zero e f = absurd (omega (arith, mul-one c))
    go (suc d) e f = record { d = d; is = mul_assoc c 2 (2 ^ d) ∙ ap (λ (n : ℕ). c * n) (mul_comm 2 (2 ^ d) ∙ sym (pow-suc 2 d)) ∙ e; at = omega arith }

pub doubling-end : (s p c x : ℕ) → s < 2 ^ 53 → Doubling s p c x → 2 ^ 52 ≤ c → (c ≡ s) × (x ≡ p)
doubling-end s p c x g w l = go w.d w.is w.at
  where
    twice : (a u : ℕ) → 2 ^ 52 ≤ a → 0 < u → a * u < 2 ^ 52 → ⊥
    twice a u h k m = omega (arith, mul-le-mul_right u h)

    go : (d : ℕ) → c * 2 ^ d ≡ s → x ≡ p + d → (c ≡ s) × (x ≡ p)
    go zero e f = (sym (mul-one c) ∙ e, omega arith)
    go (suc d) e f = absurd (twice c (2 ^ d) l (pow_pos d) (halved (c * 2 ^ d) (mul_assoc c (2 ^ d) 2 ∙ ap (λ (n : ℕ). c * n) (sym (pow-suc 2 d)) ∙ e)))
      where
        halved : (m : ℕ) → m * 2 ≡ s → m < 2 ^ 52
        halved m q = omega arith

-- ---- what the definition says of a pattern below 2 ^ 52, and of the others
pub small-bits : (b : ℕ) → b < 2 ^ 52 → root_bits b ≡ root_at (filled b) (size b + 1023)
unfolding root_bits
small-bits b h = rw (lt-ltb b 0x10_0000_0000_0000 h)

pub normal-bits : (b : ℕ) → 2 ^ 52 ≤ b → root_bits b ≡ root_at (b % 2 ^ 52 + 2 ^ 52) (b / 2 ^ 52 + 1075)
unfolding root_bits
normal-bits b h = rw (le-ltb b 0x10_0000_0000_0000 h)

-- ---- where the loop ends
module _ (b c x : ℕ) (h : b < 2 ^ 52) (w : Doubling (filled b) (size b + 1023) c x) (l : 2 ^ 52 ≤ c) where
  there : (c ≡ filled b) × (x ≡ size b + 1023)
  there = doubling-end (filled b) (size b + 1023) c x (filled-lt b h) w l

  pub doubled-root : root_at c x ≡ root_bits b
  doubled-root = ap (λ (n : ℕ). root_at n x) there.0 ∙ ap (λ (n : ℕ). root_at (filled b) n) there.1 ∙ sym (small-bits b h)

  pub doubled_fits : (c < 2 ^ 53) × (54 ≤ x) × (x < 6000)
  doubled_fits =
      let e : x ≡ size b + 1023 = there.1 in
      (subst (λ (n : ℕ). n < 2 ^ 53) (sym there.0) (filled-lt b h), omega arith, omega (arith, size-le b 52 h))

-- ---- the number that a subnormal pattern stands for
fields : (b : ℕ) (s : Bool) (x t : ℕ) → leb 0x8000_0000_0000_0000 b ≡ s → b % 0x8000_0000_0000_0000 / 0x10_0000_0000_0000 ≡ x → b % 0x10_0000_0000_0000 ≡ t → of_bits binary64 b ≡ of_fields binary64 s x t
unfolding of_bits
fields b s x t p q r = rw (p, q, r)

small_is : (b : ℕ) → b < 0x10_0000_0000_0000 → HasValue (of_bits binary64 b) false b (2 ^ 1074)
small_is b h =
    subst (λ (x : Float). HasValue x false b (2 ^ 1074)) (sym (fields b false 0 b (lt-leb 0x8000_0000_0000_0000 b (omega arith)) (omega arith) (omega arith)))
    (subst (λ (n : ℕ). HasValue (of_fields binary64 false 0 b) false n (2 ^ 1074)) (mul-one b) (at b))
  where
    at : (b : ℕ) → HasValue (of_fields binary64 false 0 b) false (b * 1) (2 ^ 1074)
    at b = unfold of_fields in odd_sign 53 false b 0 1074

-- ---- the root's bracket
small-root : (b : ℕ) → 0 < b → b < 0x10_0000_0000_0000 → Bracket (of_bits binary64 b) (of_bits binary64 (root_bits b))
small-root b B h =
    rw (small-bits b h)
    (root-is-nearest (filled b) (size b + 1023) (filled-ge b B h) (filled-lt b h) (room (size b)) (end (size b) (size-le b 52 h)) (of_bits binary64 b) b (small_is b h) (scale (size b) (size-le b 52 h)))
  where
    room : (n : ℕ) → 54 ≤ n + 1023
    room n = omega arith

    end : (n : ℕ) → n ≤ 52 → n + 1023 ≤ 3121
    end n l = omega arith

    scale : (n : ℕ) → n ≤ 52 → b * 2 ^ (53 - n) * 2 ^ (n + 1023) ≡ b * 2 ^ 1076
    scale n l =
        let e : 53 - n + (n + 1023) ≡ 1076 = omega arith in
        mul_assoc b (2 ^ (53 - n)) (2 ^ (n + 1023)) ∙ ap (λ (z : ℕ). b * z) (sym (pow-add 2 (53 - n) (n + 1023)) ∙ ap (λ (z : ℕ). 2 ^ z) e)

normal-root : (b : ℕ) → 0x10_0000_0000_0000 ≤ b → b < 0x7ff0_0000_0000_0000 → Bracket (of_bits binary64 b) (of_bits binary64 (root_bits b))
normal-root b h l =
    rw (normal-bits b h)
    (root-is-nearest (b % 2 ^ 52 + 2 ^ 52) (b / 2 ^ 52 + 1075) (omega arith) (omega arith) (omega arith) (omega arith) (of_bits binary64 b) (val b) (bits_is b h l) (scale (b % 2 ^ 52) (b / 2 ^ 52) (omega arith)))
  where
    scale : (t e : ℕ) → 1 ≤ e → (t + 2 ^ 52) * 2 ^ (e + 1075) ≡ (2 ^ 52 + t) * 2 ^ (e - 1) * 2 ^ 1076
    scale t e p =
        let c : t + 2 ^ 52 ≡ 2 ^ 52 + t = omega arith in
        let f : e + 1075 ≡ e - 1 + 1076 = omega arith in
        ap (λ (n : ℕ). n * 2 ^ (e + 1075)) c ∙ ap (λ (n : ℕ). (2 ^ 52 + t) * 2 ^ n) f ∙ ap (λ (n : ℕ). (2 ^ 52 + t) * n) (pow-add 2 (e - 1) 1076) ∙ sym (mul_assoc (2 ^ 52 + t) (2 ^ (e - 1)) (2 ^ 1076))

-- ---- the arm that `root_of` takes
level-self : (a : ℕ) → eqb a a && (true || eqb a 0) ≡ true
level-self a = rw (eq-eqb a a refl)

product-zero : (m u l b e : ℕ) → m * u * l ≡ b * e → 0 < b → 0 < e → m * u ≡ 0 → ⊥
product-zero m u l b e h B E z = let k : 0 < b * e = mul-pos B E in omega (arith, h, ap (λ (y : ℕ). y * l) z, zero-mul l)

tests : (x : Float) (b : ℕ) → 0 < b → HasValue x false b (2 ^ 1074) → (ne x x ≡ false) × (eq x (lit 0) ≡ false) × (lt x (lit 0) ≡ false) × T (not (is_nan x))
unfolding ne lt of_bits is_nan
tests nan b B v = absurd v
tests (inf s) b B v = absurd v
tests (fin true m e) b B v = absurd (subst T v.0 tt)
tests (fin false m e) b B v =
    let n : m * up e ≡ 0 → ⊥ = product-zero m (up e) (2 ^ 1074) b (down e) v.1 B (down_pos e) in (
      ap not (level-self (m * up e * down e)),
      rw (ne_eqb (m * up e * 1) (0 * 1 * down e) (λ z. n (omega (arith, z)))),
      le-ltb (m * up e * 1) (0 * 1 * down e) (omega arith),
      tt,
    )

arm : (b v : ℕ) → b < 0x7ff0_0000_0000_0000 → 0 < v → HasValue (of_bits binary64 b) false v (2 ^ 1074) → root_of (of_bits binary64 b) ≡ of_bits binary64 (root_bits b)
unfolding root_of
arm b v l above is =
    let x = of_bits binary64 b in
    let t = tests x v above is in
    let p : to_bits binary64 x ≡ b = to_bits-of_bits binary64 b (wide b l) t.3 in
    rw (t.0, t.1, t.2, p, lt-leb 0x7ff0_0000_0000_0000 b l)
  where
    wide : (b : ℕ) → b < 0x7ff0_0000_0000_0000 → b < 2 * 0x8000_0000_0000_0000
    wide b h = omega arith

-- ---- every finite x above 0
val_pos : (b : ℕ) → 0 < val b
val_pos b = mul-pos (positive (b % 0x10_0000_0000_0000)) (pow_pos (b / 0x10_0000_0000_0000 - 1))
  where
    positive : (t : ℕ) → 0 < 0x10_0000_0000_0000 + t
    positive t = omega arith

pub root-bracket : (b : ℕ) → 0 < b → b < 0x7ff0_0000_0000_0000 → Bracket (of_bits binary64 b) (root_of (of_bits binary64 b))
root-bracket b B l = go (ltb b 0x10_0000_0000_0000) refl
  where
    go : (t : Bool) → ltb b 0x10_0000_0000_0000 ≡ t → Bracket (of_bits binary64 b) (root_of (of_bits binary64 b))
    go true e = let h = ltb-true b 0x10_0000_0000_0000 e in rw (arm b b l B (small_is b h)) (small-root b B h)
    go false e = let h = ltb-false b 0x10_0000_0000_0000 e in rw (arm b (val b) l (val_pos b) (bits_is b h l)) (normal-root b h l)

-- ---- a pattern that is not a zero's
pub not-zero : (x : Float) → T (fits binary64 x) → eq x (lit 0) ≡ false → 0 < to_bits binary64 x
not-zero x t e = go (to_bits binary64 x) (of_bits-to_bits binary64 x t)
  where
    clash : eq (lit 0) (lit 0) ≡ true
    clash = unfold eq of_bits in refl

    go : (n : ℕ) → of_bits binary64 n ≡ x → 0 < n
    go zero q = absurd (subst T (sym clash ∙ ap (λ (y : Float). eq y (lit 0)) q ∙ e) tt)
    go (suc n) q = omega arith
