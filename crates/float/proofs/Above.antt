-- Values above zero: when a value is not positive, and sums and halves of positive doubles. Assumes nothing.
use Rattle.std.proofs.Common.{◌≡◌, ℕ, zero, suc, ◌+◌, ◌*◌, ◌^◌, ◌<◌, ◌≤◌, true, false, not, T, ltb, ℤ, negsuc, sym, refl, ◌∙◌, subst, le_trans, le_of_eq, mul-le-mul_right, mul_assoc, mul_comm, add-mul, mul-pos, one-mul, mul_left_comm, arith, ltb→lt, lt→ltb, pow_pos, le-ltb, ne_eqb}
use lib.Ieee.{Float, nan, inf, fin, binary64, up, down, round, sum, add, mul, le, of_bits, fits}
use lib.Ieee.Fits.{up_pos, down_pos}
use lib.Ieee.Bits.{is_true}
use lib.Ieee.Order.{round_mono}
use lib.Ieee.Positive.{positive, above, above_of_le}
use Rattle.float.specs.Double.{HALF, lit, is_finite, not_positive, ◌⊕◌, ◌⊗◌}
use Rattle.float.proofs.Sign.{Plain, flat-le}
use Rattle.float.proofs.Rem.{held_any}
use Rattle.float.proofs.Own.{round-own}
use Rattle.float.proofs.Within.{below-zero, or-le}

-- ---- not positive

-- a positive value passes the test
pub positive-passes : (x : Float) → T (positive x) → not_positive x ≡ false
unfolding not_positive le of_bits
positive-passes nan h = absurd h
positive-passes (inf s) h = absurd h
positive-passes (fin true m e) h = absurd h
positive-passes (fin false m e) h =
    let p : 0 < m * up e = mul-pos (ltb→lt 0 m h) (up_pos e) in
    rw (le-ltb (m * up e * 1) (0 * 1 * down e) (omega arith), ne_eqb (m * up e * 1) (0 * 1 * down e) (λ z. absurd (omega arith)))

zero-fails : (e : ℤ) → not_positive (fin false 0 e) ≡ true
unfolding not_positive of_bits
zero-fails e = flat-le 0 e (lit 0) refl refl

negative-fails : (m : ℕ) (e : ℤ) → not_positive (fin true m e) ≡ true
unfolding not_positive le of_bits
negative-fails m e = below-zero (m * up e * 1) (0 * 1 * down e)

-- what passes it is positive
pub passes-positive : (x : Float) → not_positive x ≡ false → T (positive x)
unfolding not_positive
passes-positive nan h = absurd (subst T h tt)
passes-positive (inf s) h = absurd (subst T h tt)
passes-positive (fin true m e) h = absurd (subst T (sym (negative-fails m e) ∙ h) tt)
passes-positive (fin false zero e) h = absurd (subst T (sym (zero-fails e) ∙ h) tt)
passes-positive (fin false (suc m) e) h = lt→ltb 0 (suc m) (omega arith)

-- what is above zero and fails it is an infinity
pub above-fails : (x : Float) → T (above x) → not_positive x ≡ true → x ≡ inf false
above-fails nan a h = absurd a
above-fails (inf true) a h = absurd a
above-fails (inf false) a h = refl
above-fails (fin true m e) a h = absurd a
above-fails (fin false m e) a h = absurd (subst T (sym h ∙ positive-passes (fin false m e) a) tt)

-- and what is above zero and finite passes it
pub above-finite : (x : Float) → T (above x) → T (is_finite x) → T (positive x)
above-finite nan a h = absurd a
above-finite (inf s) a h = absurd h
above-finite (fin true m e) a h = absurd a
above-finite (fin false m e) a h = a

pub positive-plain : (x : Float) → T (positive x) → Plain x
positive-plain nan h = absurd h
positive-plain (inf s) h = absurd h
positive-plain (fin true m e) h = absurd h
positive-plain (fin false m e) h = refl

-- ---- sums

more : (a b d e : ℕ) → b * (e * d) ≤ (a + b * e) * d
more a b d e = le_trans (le_of_eq (sym (mul_assoc b e d))) (mul-le-mul_right d (omega arith))

-- a value that is not negative, and a positive double
pub add-above : (x a : Float) → Plain x → T (positive a) → T (fits binary64 a) → T (above (x ⊕ a))
unfolding add sum
add-above nan a h p q = absurd h
add-above (inf true) a h p q = absurd (subst T h tt)
add-above (inf false) nan h p q = absurd p
add-above (inf false) (inf t) h p q = absurd p
add-above (inf false) (fin t n d) h p q = tt
add-above (fin true m e) a h p q = absurd (subst T h tt)
add-above (fin false m e) nan h p q = absurd p
add-above (fin false m e) (inf t) h p q = absurd p
add-above (fin false m e) (fin true n d) h p q = absurd p
add-above (fin false m e) (fin false n d) h p q =
    above_of_le (fin false n d) (round binary64 false (m * up e * down d + n * up d * down e) (down e * down d)) p
    (subst (λ (z : Float). T (le z (round binary64 false (m * up e * down d + n * up d * down e) (down e * down d)))) (round-own binary64 false n d q)
    (round_mono binary64 (n * up d) (down d) (m * up e * down d + n * up d * down e) (down e * down d) (down_pos d) (mul-pos (down_pos e) (down_pos d))
    (more (m * up e * down d) (n * up d) (down d) (down e))))

-- ---- half the sum of two positive doubles is above zero: the smallest double is 1 / 2 ^ 1074

grown : (a b p : ℕ) → 0 < a → b ≤ p → b ≤ a * p
grown a b p h l = le_trans l (le_trans (le_of_eq (sym (one-mul p))) (mul-le-mul_right p h))

-- a positive double is no smaller
least : (m : ℕ) (e : ℤ) → T (ltb 0 m) → T (fits binary64 (fin false m e)) → down e ≤ m * up e * 2 ^ 1074
least m e p q = grown (m * up e) (down e) (2 ^ 1074) (mul-pos (ltb→lt 0 m p) (up_pos e)) (held_any binary64 false m e q).deep

-- a fraction that is no smaller rounds to a value above zero
above-round : (n d : ℕ) → 0 < d → d ≤ n * 2 ^ 1074 → T (above (round binary64 false n d))
above-round n d D h =
    above_of_le (round binary64 false 1 (2 ^ 1074)) (round binary64 false n d) smallest
    (round_mono binary64 1 (2 ^ 1074) n d (pow_pos 1074) D (le_trans (le_of_eq (one-mul d)) h))
  where
    smallest : T (positive (round binary64 false 1 (2 ^ 1074)))
    smallest = unfold round in tt

-- two such fractions add to 1 / 2 ^ 1073 or more
twice : (a b e d p : ℕ) → e ≤ a * (2 * p) → d ≤ b * (2 * p) → e * d ≤ (a * d + b * e) * p
twice a b e d p h g =
    let x : e * d ≤ a * (2 * p) * d = mul-le-mul_right d h in
    let y : d * e ≤ b * (2 * p) * e = mul-le-mul_right e g in
    let u : a * (2 * p) * d ≡ 2 * (a * d * p) = simp (mul_assoc, mul_comm, mul_left_comm) in
    let v : b * (2 * p) * e ≡ 2 * (b * e * p) = simp (mul_assoc, mul_comm, mul_left_comm) in
    omega (arith, x, y, u, v, mul_comm d e, add-mul (a * d) (b * e) p)

least-sum : (a b : Float) → T (positive a) → T (fits binary64 a) → T (positive b) → T (fits binary64 b) → T (le (fin false 1 (negsuc 1072)) (a ⊕ b))
unfolding add sum
least-sum nan b p q r s = absurd p
least-sum (inf t) b p q r s = absurd p
least-sum (fin true m e) b p q r s = absurd p
least-sum (fin false m e) nan p q r s = absurd r
least-sum (fin false m e) (inf t) p q r s = absurd r
least-sum (fin false m e) (fin true n d) p q r s = absurd r
least-sum (fin false m e) (fin false n d) p q r s =
    subst (λ (z : Float). T (le z (round binary64 false (m * up e * down d + n * up d * down e) (down e * down d)))) (round-own binary64 false 1 (negsuc 1072) (unfold fits in tt))
    (round_mono binary64 1 (2 ^ 1073) (m * up e * down d + n * up d * down e) (down e * down d) (pow_pos 1073) (mul-pos (down_pos e) (down_pos d))
    (le_trans (le_of_eq (one-mul (down e * down d))) (twice (m * up e) (n * up d) (down e) (down d) (2 ^ 1073) (least m e p q) (least n d r s))))

half-above : (x : Float) → T (le (fin false 1 (negsuc 1072)) x) → T (above (HALF ⊗ x))
unfolding mul of_bits le
half-above nan h = absurd h
half-above (inf true) h = absurd h
half-above (inf false) h = tt
half-above (fin true m e) h = absurd (above_of_le (fin false 1 (negsuc 1072)) (fin true m e) tt h)
half-above (fin false m e) h = above-round (1 * 1 * (m * up e)) (2 * down e) (mul-pos (ltb→lt 0 2 tt) (down_pos e)) (doubled (m * up e) (down e) (2 ^ 1073) (or-le (1 * 1 * down e) (m * up e * 2 ^ 1073) (is_true _ h)))
  where
    doubled : (a d p : ℕ) → 1 * 1 * d ≤ a * p → 2 * d ≤ 1 * 1 * a * (2 * p)
    doubled a d p h = omega arith

-- half their sum is above zero
pub mean-above : (a b : Float) → T (positive a) → T (fits binary64 a) → T (positive b) → T (fits binary64 b) → T (above (HALF ⊗ (a ⊕ b)))
mean-above a b p q r s = half-above (a ⊕ b) (least-sum a b p q r s)

-- the test of what is above zero
pub above-test : (x : Float) → T (above x) → not_positive x ≡ not (is_finite x)
above-test nan h = absurd h
above-test (inf s) h = unfold not_positive in refl
above-test (fin true m e) h = absurd h
above-test (fin false m e) h = positive-passes (fin false m e) h

pub zero-not-positive : not_positive (lit 0) ≡ true
unfolding not_positive le of_bits
zero-not-positive = refl

pub above-plain : (x : Float) → T (above x) → Plain x
above-plain nan h = absurd h
above-plain (inf true) h = absurd h
above-plain (inf false) h = refl
above-plain (fin true m e) h = absurd h
above-plain (fin false m e) h = refl

pub zero-plain : Plain (lit 0)
unfolding of_bits
zero-plain = refl
