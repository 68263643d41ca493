-- Floats that are whole numbers: sums and halves of even ones are exact. Assumes nothing.
use mathlib.Core.Path.{◌≡◌, refl, sym, ap, ◌∙◌, subst}
use Prim.Native.Nat.{ℕ, zero, suc, ◌+◌, ◌-◌, ◌*◌, ◌/◌, ◌%◌, ◌^◌, ◌≤◌, ◌<◌, min}
use native.Mathlib.Nat.{mul-one, mul_comm, mul_assoc, mul_left_comm, mul_right_comm, mul-pos, add-mul, add_comm, mul-div_cancel, mul-mod_left, div-add-mod', le_of_mul-le-mul_right, lt_of_mul-lt-mul_right, mul-le-mul_right, zero-lt-suc, mul-sub}
use native.Mathlib.Omega.{arith}
use mathlib.Core.Bool.{Bool, true, false, cond, ◌&&◌, ◌||◌, beq}
use borrow.Author.Tests.{ltb-true, ltb-false, eq-eqb}
use lib.Dec.{T, ltb, leb, eqb, eqb→eq, leb→le, le→leb}
use lib.IntN.{ℤ, pos, neg_ℤ, nat_abs, sub_ℕ, ◌+ℤ◌}
use lib.Ieee.{Float, nan, inf, fin, Format, binary64, prec, up, down, round, sum, add, mul, of_bits, of_int, to_signed, eq}
use lib.Ieee.Fits.{down_pos, and_i, and_l, and_r, eq→eqb}
use lib.Ieee.Exact.{HasValue}
use lib.Ieee.Back.{round_whole}
use lib.Ieee.Scale.{round_same}
use Rattle.mesh.specs.Area.{even_whole, is_whole, coord, halfway}
use Rattle.mesh.proofs.Diff.{is_pos, is-neg, diff-same, add-diff, abs_diff}

-- n with the sign s
abbrev pub sign : Bool → ℕ → ℤ
sign false n = pos n
sign true n = neg_ℤ (pos n)

even-part : (a d : ℕ) → 0 < d → a % (d * 2) ≡ 0 → a * 1 ≡ 2 * (a / (d * 2)) * d
even-part a d D h =
    let e : a / (d * 2) * (d * 2) + a % (d * 2) ≡ a = div-add-mod' a (d * 2) in
    let f : a / (d * 2) * (d * 2) ≡ 2 * (a / (d * 2)) * d = simp (mul_assoc, mul_comm) in
    omega arith

-- what an even whole float is: 2 * n with a sign
pub record Even (x : Float) : Type 0 where
  pub neg : Bool
  pub half : ℕ
  pub value : HasValue x neg (2 * half) 1
  pub small : 2 * half ≤ 1048576

pub of-even : (x : Float) → T (even_whole x) → Even x
unfolding even_whole
of-even nan t = absurd t
of-even (inf s) t = absurd t
of-even (fin s m e) t =
    let D = down_pos e in
    let v : m * up e * 1 ≡ 2 * (m * up e / (down e * 2)) * down e = even-part (m * up e) (down e) D (eqb→eq (m * up e % (down e * 2)) 0 (and_l (eqb (m * up e % (down e * 2)) 0) (leb (m * up e) (1048576 * down e)) t)) in
    let l : m * up e ≤ 1048576 * down e = leb→le (m * up e) (1048576 * down e) (and_r (eqb (m * up e % (down e * 2)) 0) (leb (m * up e) (1048576 * down e)) t) in
    record { neg = s; half = m * up e / (down e * 2); value = (refl, v); small = le_of_mul-le-mul_right {k = down e} (omega arith) D }

-- ---- a float's whole number
pub coord-of : (x : Float) (s : Bool) (n : ℕ) → HasValue x s n 1 → n ≤ 1048576 → coord x ≡ sign s n
unfolding coord to_signed
coord-of nan s n v h = absurd v
coord-of (inf t) s n v h = absurd v
coord-of (fin t m e) s n v h =
    let q : m * up e / down e ≡ n = ap (λ (a : ℕ). a / down e) (sym (mul-one (m * up e)) ∙ v.1) ∙ mul-div_cancel n (down_pos e) in
    rw (v.0, q) (go s)
  where
    go : (s : Bool) → cond s (neg_ℤ (pos (min n (2 ^ 63)))) (pos (min n (2 ^ 63 - 1))) ≡ sign s n
    go true = let e : min n (2 ^ 63) ≡ n = omega arith in ap (λ (k : ℕ). neg_ℤ (pos k)) e
    go false = let e : min n (2 ^ 63 - 1) ≡ n = omega arith in ap pos e

pub whole_of : (x : Float) (s : Bool) (n : ℕ) → HasValue x s n 1 → n ≤ 1048576 → T (is_whole x)
unfolding is_whole
whole_of nan s n v h = absurd v
whole_of (inf t) s n v h = absurd v
whole_of (fin t m e) s n v h =
    let q : m * up e ≡ n * down e = sym (mul-one (m * up e)) ∙ v.1 in
    and_i (eqb (m * up e % down e) 0) (leb (m * up e) (1048576 * down e)) (eq→eqb (ap (λ (a : ℕ). a % down e) q ∙ mul-mod_left n (down e)))
    (le→leb (m * up e) (1048576 * down e) (subst (λ (a : ℕ). a ≤ 1048576 * down e) (sym q) (mul-le-mul_right (down e) h)))

sign-is : (s : Bool) (n : ℕ) → sign s n ≡ sub_ℕ (cond s 0 n) (cond s n 0)
sign-is false n = sym (is_pos n 0 n (omega arith))
sign-is true zero = refl
sign-is true (suc n) = sym (is-neg 0 (suc n) n (omega arith))

-- ---- the sum of two whole floats
pub scaled : (f : Format) (s : Bool) (a c n : ℕ) → 0 < c → n ≤ 2 ^ prec f → a ≡ n * c → HasValue (round f s a c) s n 1
scaled f s a c n C h e = subst (λ (z : Float). HasValue z s n 1) (round_same f s n 1 a c (zero-lt-suc 0) C (sym e ∙ sym (mul-one a))) (round_whole f s n h)

-- x is the whole number z, and of size n
pub record Is (x : Float) (z : ℤ) : Type 0 where
  pub neg : Bool
  pub size : ℕ
  pub value : HasValue x neg size 1
  pub same : sign neg size ≡ z

less_by : (a b c x y : ℕ) → x ≡ a * c → y ≡ b * c → x - y ≡ (a - b) * c
less_by a b c x y h g = rw (h, g) (ap₂' (mul_comm a c) (mul_comm b c) ∙ sym (mul-sub c a b) ∙ mul_comm c (a - b))
  where
    ap₂' : {p q r s : ℕ} → p ≡ r → q ≡ s → p - q ≡ r - s
    ap₂' h g = rw (h, g)

above-by : (a b c x y : ℕ) → 0 < c → x ≡ a * c → y ≡ b * c → x < y → a < b
above-by a b c x y C h g l = lt_of_mul-lt-mul_right c (subst (λ (z : ℕ). a * c < z) g (subst (λ (z : ℕ). z < y) h l))

not-above-by : (a b c x y : ℕ) → x ≡ a * c → y ≡ b * c → y ≤ x → 0 < c → b ≤ a
not-above-by a b c x y h g l C = le_of_mul-le-mul_right (subst (λ (z : ℕ). b * c ≤ z) h (subst (λ (z : ℕ). z ≤ x) g l)) C

sign-add : (s t u : Bool) (a b n : ℕ) → cond s 0 a + (cond t 0 b + cond u n 0) ≡ cond u 0 n + (cond s a 0 + cond t b 0) → sign u n ≡ sign s a +ℤ sign t b
sign-add s t u a b n e =
    sign-is u n ∙ diff-same (cond u 0 n) (cond u n 0) (cond s 0 a + cond t 0 b) (cond s a 0 + cond t b 0) (omega arith)
    ∙ sym (add-diff (cond s 0 a) (cond s a 0) (cond t 0 b) (cond t b 0)) ∙ sym (ap (λ (z : ℤ). z +ℤ sign t b) (sign-is s a) ∙ ap (λ (z : ℤ). sub_ℕ (cond s 0 a) (cond s a 0) +ℤ z) (sign-is t b))

module _ (f : Format) (a b c x y : ℕ) (C : 0 < c) (hx : x ≡ a * c) (hy : y ≡ b * c) (small : a + b ≤ 2 ^ prec f) where
  sum_alike : (s : Bool) → Is (round f s (x + y) c) (sign s a +ℤ sign s b)
  sum_alike s = record { neg = s; size = a + b; value = scaled f s (x + y) c (a + b) C small (rw (hx, hy) (sym (add-mul a b c))); same = sign-add s s s a b (a + b) (go s) }
    where
      go : (s : Bool) → cond s 0 a + (cond s 0 b + cond s (a + b) 0) ≡ cond s 0 (a + b) + (cond s a 0 + cond s b 0)
      go true = omega arith
      go false = omega arith

  -- of two with different signs, the second is the larger
  sum-other : (s t : Bool) → beq s t ≡ false → x < y → Is (round f t (y - x) c) (sign s a +ℤ sign t b)
  sum-other s t d l = record { neg = t; size = b - a; value = scaled f t (y - x) c (b - a) C (omega arith) (less_by b a c y x hy hx); same = sign-add s t t a b (b - a) (go s t d (above-by a b c x y C hx hy l)) }
    where
      go : (s t : Bool) → beq s t ≡ false → a < b → cond s 0 a + (cond t 0 b + cond t (b - a) 0) ≡ cond t 0 (b - a) + (cond s a 0 + cond t b 0)
      go true true d l = absurd (subst T d tt)
      go true false d l = omega arith
      go false true d l = omega arith
      go false false d l = absurd (subst T d tt)

  sum_first : (s t : Bool) → beq s t ≡ false → y ≤ x → Is (round f (s && ltb y x) (x - y) c) (sign s a +ℤ sign t b)
  sum_first s t d l = record {
    neg = s && ltb y x;
    size = a - b;
    value = scaled f (s && ltb y x) (x - y) c (a - b) C (omega arith) (less_by a b c x y hx hy);
    same = sign-add s t (s && ltb y x) a b (a - b) (go s t (ltb y x) d refl (not-above-by a b c x y hx hy l C));
  }
    where
      go : (s t u : Bool) → beq s t ≡ false → ltb y x ≡ u → b ≤ a → cond s 0 a + (cond t 0 b + cond (s && u) (a - b) 0) ≡ cond (s && u) 0 (a - b) + (cond s a 0 + cond t b 0)
      go true true u d e l = absurd (subst T d tt)
      go false false u d e l = absurd (subst T d tt)
      go true false true d e l = omega arith
      go true false false d e l = omega (arith, not-above-by b a c y x hy hx (ltb-false y x e) C)
      go false true true d e l = omega arith
      go false true false d e l = omega arith

  sum_is : (s t : Bool) → Is (sum f s x t y c) (sign s a +ℤ sign t b)
  unfolding sum
  sum_is s t = go (beq s t) refl (ltb x y) refl
    where
      go : (d : Bool) → beq s t ≡ d → (l : Bool) → ltb x y ≡ l → Is (cond d (round f s (x + y) c) (cond l (round f t (y - x) c) (round f (s && ltb y x) (x - y) c))) (sign s a +ℤ sign t b)
      go true d l e = subst (λ (u : Bool). Is (round f s (x + y) c) (sign s a +ℤ sign u b)) (alike s t d) (sum_alike s)
        where
          alike : (s t : Bool) → beq s t ≡ true → s ≡ t
          alike true true d = refl
          alike true false d = absurd (subst T (sym d) tt)
          alike false true d = absurd (subst T (sym d) tt)
          alike false false d = refl
      go false d true e = sum-other s t d (ltb-true x y e)
      go false d false e = sum_first s t d (ltb-false x y e)

value-scaled : (m u n d e : ℕ) → m * u * 1 ≡ n * e → m * u * d ≡ n * (e * d)
value-scaled m u n d e h = ap (λ (z : ℕ). z * d) (sym (mul-one (m * u)) ∙ h) ∙ mul_assoc n e d

pub add_is : (f : Format) (x y : Float) (s t : Bool) (a b : ℕ) → HasValue x s a 1 → HasValue y t b 1 → a + b ≤ 2 ^ prec f → Is (add f x y) (sign s a +ℤ sign t b)
unfolding add
add_is f nan y s t a b p q h = absurd p
add_is f (inf u) y s t a b p q h = absurd p
add_is f (fin u m e) nan s t a b p q h = absurd q
add_is f (fin u m e) (inf w) s t a b p q h = absurd q
add_is f (fin u m e) (fin w n d) s t a b p q h =
    subst (λ (i : Bool). Is (sum f i (m * up e * down d) w (n * up d * down e) (down e * down d)) (sign s a +ℤ sign t b)) (sym p.0)
    (subst (λ (i : Bool). Is (sum f s (m * up e * down d) i (n * up d * down e) (down e * down d)) (sign s a +ℤ sign t b)) (sym q.0)
    (sum_is f a b (down e * down d) (m * up e * down d) (n * up d * down e) (mul-pos (down_pos e) (down_pos d))
    (value-scaled m (up e) a (down d) (down e) p.1) (value-scaled n (up d) b (down e) (down d) q.1 ∙ ap (λ (z : ℕ). b * z) (mul_comm (down d) (down e))) h s t))

pub abs-sign : (s : Bool) (n : ℕ) → nat_abs (sign s n) ≡ n
abs-sign false n = refl
abs-sign true zero = refl
abs-sign true (suc n) = refl

pub size_of : (u s t : Bool) (n a b : ℕ) → sign u n ≡ sign s a +ℤ sign t b → n ≡ (cond s 0 a + cond t 0 b - (cond s a 0 + cond t b 0)) + (cond s a 0 + cond t b 0 - (cond s 0 a + cond t 0 b))
size_of u s t n a b e =
    sym (abs-sign u n) ∙ ap nat_abs (e ∙ ap (λ (z : ℤ). z +ℤ sign t b) (sign-is s a) ∙ ap (λ (z : ℤ). sub_ℕ (cond s 0 a) (cond s a 0) +ℤ z) (sign-is t b) ∙ add-diff (cond s 0 a) (cond s a 0) (cond t 0 b) (cond t b 0))
    ∙ abs_diff (cond s 0 a + cond t 0 b) (cond s a 0 + cond t b 0)

-- the sum of two even ones is even
even-size : (s t : Bool) (n a b : ℕ) → 2 * a ≤ 1048576 → 2 * b ≤ 1048576
    → n ≡ (cond s 0 (2 * a) + cond t 0 (2 * b) - (cond s (2 * a) 0 + cond t (2 * b) 0)) + (cond s (2 * a) 0 + cond t (2 * b) 0 - (cond s 0 (2 * a) + cond t 0 (2 * b)))
    → (n ≡ 2 * (n / 2)) × (n / 2 ≤ 1048576)
even-size true true n a b h g e = (omega arith, omega arith)
even-size true false n a b h g e = (omega arith, omega arith)
even-size false true n a b h g e = (omega arith, omega arith)
even-size false false n a b h g e = (omega arith, omega arith)

abbrev half : Float
half = of_bits binary64 0x3fe0_0000_0000_0000

half-fraction : (n u d k : ℕ) → n * u * 1 ≡ 2 * k * d → 1 * 1 * (n * u) ≡ k * (2 * d)
half-fraction n u d k h = omega (arith, mul-one (n * u), mul_assoc 2 k d, mul_left_comm k 2 d)

pub half_is : (x : Float) (s : Bool) (k : ℕ) → HasValue x s (2 * k) 1 → k ≤ 2 ^ 53 → HasValue (mul binary64 half x) s k 1
unfolding mul of_bits
half_is nan s k v h = absurd v
half_is (inf t) s k v h = absurd v
half_is (fin true n d) s k v h = subst (λ (u : Bool). HasValue (round binary64 true (1 * 1 * (n * up d)) (2 * down d)) u k 1) v.0 (scaled binary64 true (1 * 1 * (n * up d)) (2 * down d) k (mul-pos (zero-lt-suc 1) (down_pos d)) h (half-fraction n (up d) (down d) k v.1))
half_is (fin false n d) s k v h = subst (λ (u : Bool). HasValue (round binary64 false (1 * 1 * (n * up d)) (2 * down d)) u k 1) v.0 (scaled binary64 false (1 * 1 * (n * up d)) (2 * down d) k (mul-pos (zero-lt-suc 1) (down_pos d)) h (half-fraction n (up d) (down d) k v.1))

double-sign : (s : Bool) (k : ℕ) → sign s k +ℤ sign s k ≡ sign s (2 * k)
double-sign s k = sym (sign-add s s s k k (2 * k) (go s))
  where
    go : (s : Bool) → cond s 0 k + (cond s 0 k + cond s (2 * k) 0) ≡ cond s 0 (2 * k) + (cond s k 0 + cond s k 0)
    go true = omega arith
    go false = omega arith

pub record Halved (x y : Float) : Type 0 where
  pub is-whole : T (is_whole (halfway x y))
  pub in-middle : coord (halfway x y) +ℤ coord (halfway x y) ≡ coord x +ℤ coord y

pub halved : (x y : Float) → T (even_whole x) → T (even_whole y) → Halved x y
unfolding halfway
halved x y h g =
    let a = of-even x h in
    let b = of-even y g in
    let z = add_is binary64 x y a.neg b.neg (2 * a.half) (2 * b.half) a.value b.value (wide (2 * a.half) (2 * b.half) a.small b.small) in
    let k = even-size a.neg b.neg z.size a.half b.half a.small b.small (size_of z.neg a.neg b.neg z.size (2 * a.half) (2 * b.half) z.same) in
    let v : HasValue (halfway x y) z.neg (z.size / 2) 1 = half_is (add binary64 x y) z.neg (z.size / 2) (subst (λ (n : ℕ). HasValue (add binary64 x y) z.neg n 1) k.0 z.value) (wider (z.size / 2) k.1) in
    let c : coord (halfway x y) ≡ sign z.neg (z.size / 2) = coord-of (halfway x y) z.neg (z.size / 2) v k.1 in
    record {
      is-whole = whole_of (halfway x y) z.neg (z.size / 2) v k.1;
      in-middle =
          ap (λ (i : ℤ). i +ℤ i) c ∙ double-sign z.neg (z.size / 2) ∙ ap (λ (n : ℕ). sign z.neg n) (sym k.0) ∙ z.same
          ∙ sym (ap (λ (i : ℤ). i +ℤ coord y) (coord-of x a.neg (2 * a.half) a.value a.small) ∙ ap (λ (i : ℤ). sign a.neg (2 * a.half) +ℤ i) (coord-of y b.neg (2 * b.half) b.value b.small));
    }
  where
    wide : (a b : ℕ) → a ≤ 1048576 → b ≤ 1048576 → a + b ≤ 2 ^ 53
    wide a b h g = omega arith

    wider : (a : ℕ) → a ≤ 1048576 → a ≤ 2 ^ 53
    wider a h = omega arith

-- ---- the size of a coordinate
pub even-near : (x : Float) → T (even_whole x) → nat_abs (coord x) ≤ 1048576
even-near x h = let a = of-even x h in subst (λ (z : ℤ). nat_abs z ≤ 1048576) (sym (coord-of x a.neg (2 * a.half) a.value a.small)) (subst (λ (n : ℕ). n ≤ 1048576) (sym (abs-sign a.neg (2 * a.half))) a.small)

-- what a whole float is
pub record Whole (x : Float) : Type 0 where
  pub neg : Bool
  pub size : ℕ
  pub value : HasValue x neg size 1
  pub small : size ≤ 1048576

pub of-whole : (x : Float) → T (is_whole x) → Whole x
unfolding is_whole
of-whole nan t = absurd t
of-whole (inf s) t = absurd t
of-whole (fin s m e) t =
    let D = down_pos e in
    let z : m * up e % down e ≡ 0 = eqb→eq (m * up e % down e) 0 (and_l (eqb (m * up e % down e) 0) (leb (m * up e) (1048576 * down e)) t) in
    let d : m * up e / down e * down e + m * up e % down e ≡ m * up e = div-add-mod' (m * up e) (down e) in
    let l : m * up e ≤ 1048576 * down e = leb→le (m * up e) (1048576 * down e) (and_r (eqb (m * up e % down e) 0) (leb (m * up e) (1048576 * down e)) t) in
    record { neg = s; size = m * up e / down e; value = (refl, omega arith); small = le_of_mul-le-mul_right {k = down e} (omega arith) D }

pub whole-near : (x : Float) → T (is_whole x) → nat_abs (coord x) ≤ 1048576
whole-near x h = let a = of-whole x h in subst (λ (z : ℤ). nat_abs z ≤ 1048576) (sym (coord-of x a.neg a.size a.value a.small)) (subst (λ (n : ℕ). n ≤ 1048576) (sym (abs-sign a.neg a.size)) a.small)

-- a whole float equals its whole number, rounded: it is that number, or a zero
same-value : (x y : Float) (s : Bool) (n : ℕ) → HasValue x s n 1 → HasValue y s n 1 → eq x y ≡ true
unfolding eq
same-value nan y s n p q = absurd p
same-value (inf t) y s n p q = absurd p
same-value (fin t m e) nan s n p q = absurd q
same-value (fin t m e) (inf u) s n p q = absurd q
same-value (fin t m e) (fin u k d) s n p q =
    let a : m * up e ≡ n * down e = sym (mul-one (m * up e)) ∙ p.1 in
    let b : k * up d ≡ n * down d = sym (mul-one (k * up d)) ∙ q.1 in
    rw (p.0, q.0, a, b, eq-eqb (n * down e * down d) (n * down d * down e) (mul_right_comm n (down e) (down d))) (go s)
  where
    go : (s : Bool) → true && (beq s s || eqb (n * down e * down d) 0) ≡ true
    go true = refl
    go false = refl

zero-value : (x : Float) (s : Bool) → HasValue x s 0 1 → eq x (round binary64 false 0 1) ≡ true
unfolding eq round
zero-value nan s p = absurd p
zero-value (inf t) s p = absurd p
zero-value (fin t m e) s p =
    let a : m * up e * 1 ≡ 0 = omega (arith, p.1) in
    rw a (go (beq t false))
  where
    go : (b : Bool) → eqb 0 (0 * 1 * down e) && (b || true) ≡ true
    go b = rw (eq-eqb 0 (0 * 1 * down e) (omega arith)) (or b)
      where
        or : (b : Bool) → true && (b || true) ≡ true
        or true = refl
        or false = refl

value-whole : (x : Float) (s : Bool) (n : ℕ) → n ≤ 2 ^ 53 → HasValue x s n 1 → eq x (of_int binary64 (sign s n)) ≡ true
unfolding of_int
value-whole x false n h v = same-value x (round binary64 false n 1) false n v (round_whole binary64 false n h)
value-whole x true zero h v = zero-value x true v
value-whole x true (suc n) h v = same-value x (round binary64 true (suc n) 1) true (suc n) v (round_whole binary64 true (suc n) h)

pub whole_is : (x : Float) → T (is_whole x) → eq x (of_int binary64 (coord x)) ≡ true
whole_is x h =
    let a = of-whole x h in
    subst (λ (z : ℤ). eq x (of_int binary64 z) ≡ true) (sym (coord-of x a.neg a.size a.value a.small)) (value-whole x a.neg a.size (wider a.size a.small) a.value)
  where
    wider : (a : ℕ) → a ≤ 1048576 → a ≤ 2 ^ 53
    wider a h = omega arith

-- ---- either way round
sum_comm : (f : Format) (s t : Bool) (a b c : ℕ) → sum f s a t b c ≡ sum f t b s a c
unfolding sum
sum_comm f s t a b c = go s t (ltb a b) (ltb b a) refl refl
  where
    same : a ≡ b → (s t : Bool) → round f (s && false) (a - b) c ≡ round f (t && false) (b - a) c
    same e true true = ap₂' (omega arith)
      where
        ap₂' : a - b ≡ b - a → round f false (a - b) c ≡ round f false (b - a) c
        ap₂' e = ap (λ (n : ℕ). round f false n c) e
    same e true false = rw e
    same e false true = rw e
    same e false false = rw e

    go : (s t l m : Bool) → ltb a b ≡ l → ltb b a ≡ m
        → cond (beq s t) (round f s (a + b) c) (cond l (round f t (b - a) c) (round f (s && m) (a - b) c)) ≡ cond (beq t s) (round f t (b + a) c) (cond m (round f s (a - b) c) (round f (t && l) (b - a) c))
    go true true l m p q = rw (add_comm a b)
    go false false l m p q = rw (add_comm a b)
    go true false true true p q = absurd (omega (arith, ltb-true a b p, ltb-true b a q))
    go true false true false p q = refl
    go true false false true p q = refl
    go true false false false p q = same (omega (arith, ltb-false a b p, ltb-false b a q)) true false
    go false true true true p q = absurd (omega (arith, ltb-true a b p, ltb-true b a q))
    go false true true false p q = refl
    go false true false true p q = refl
    go false true false false p q = same (omega (arith, ltb-false a b p, ltb-false b a q)) false true

beq-comm : (f : Format) (s t : Bool) → cond (beq s t) (inf s) nan ≡ cond (beq t s) (inf t) nan
beq-comm f true true = refl
beq-comm f true false = refl
beq-comm f false true = refl
beq-comm f false false = refl

pub add-either : (f : Format) (x y : Float) → add f x y ≡ add f y x
unfolding add
add-either f nan nan = refl
add-either f nan (inf t) = refl
add-either f nan (fin t n d) = refl
add-either f (inf s) nan = refl
add-either f (inf s) (inf t) = beq-comm f s t
add-either f (inf s) (fin t n d) = refl
add-either f (fin s m e) nan = refl
add-either f (fin s m e) (inf t) = refl
add-either f (fin s m e) (fin t n d) = sum_comm f s t (m * up e * down d) (n * up d * down e) (down e * down d) ∙ ap (λ (c : ℕ). sum f t (n * up d * down e) s (m * up e * down d) c) (mul_comm (down e) (down d))

pub halfway-either : (x y : Float) → halfway x y ≡ halfway y x
unfolding halfway
halfway-either x y = ap (λ (z : Float). mul binary64 half z) (add-either binary64 x y)
