-- Bounds that a rounded result keeps: a bound that is itself a double survives rounding, so sums and remainders of bounded
-- values are bounded with no analysis of errors. Then the closed ranges of rem_euclid by FRAC_PI_2 and by TAU.
use Rattle.std.proofs.Common.{◌≡◌, ℕ, ◌+◌, ◌-◌, ◌*◌, ◌%◌, ◌<◌, ◌≤◌, Bool, true, false, cond, ◌&&◌, ◌||◌, T, eqb, ltb, ◌⊎◌, ℤ, negsuc, sym, refl, ◌∙◌, subst, inl, inr, ⊎_elim, le_trans, le_of_eq, le_of_lt, mul-le-mul_right, mod-lt, mul_assoc, mul_comm, add-mul, mul-pos, zero-mul, mul_right_comm, arith, lit<, ltb-false, ltb-true, le-ltb, eq-eqb, ne_eqb, eqb-true}
use native.Mathlib.Nat.{eq_of_mul-eq-mul_right}
use mathlib.Core.Bool.{beq}
use lib.Ieee.{Float, nan, inf, fin, binary64, up, down, round, sum, neg, add, rem, lt, le, of_bits}
use lib.Ieee.Fits.{down_pos, up_pos}
use lib.Ieee.Exact.{HasValue}
use lib.Ieee.Order.{round_mono}
use lib.Ieee.Positive.{through}
use Rattle.float.specs.Double.{lit, mag, is_finite, rem_euclid, FRAC-PI-2, PI, TAU}
use Rattle.float.proofs.Sign.{Plain, plain-round, round-neg}

pub and_both : (a b : Bool) → a && b ≡ true → (a ≡ true) × (b ≡ true)
and_both true true h = (refl, refl)
and_both true false h = absurd (subst T (sym h) tt)
and_both false b h = absurd (subst T (sym h) tt)

-- ---- |x| is at most a / c
abbrev pub Within : Float → ℕ → ℕ → Type 0
Within nan a c = ⊥
Within (inf s) a c = ⊥
Within (fin s m e) a c = m * up e * c ≤ a * down e

pub or-le : (a b : ℕ) → ltb a b || (eqb a b && true) ≡ true → a ≤ b
or-le a b h = go (ltb a b) refl h
  where
    go : (t : Bool) → ltb a b ≡ t → t || (eqb a b && true) ≡ true → a ≤ b
    go true e h = le_of_lt (ltb-true a b e)
    go false e h = le_of_eq (eqb-true a b (and_both (eqb a b) true h).0)

pub le-or : (a b : ℕ) → a ≤ b → ltb a b || (eqb a b && true) ≡ true
le-or a b h = go (ltb a b) refl
  where
    go : (t : Bool) → ltb a b ≡ t → t || (eqb a b && true) ≡ true
    go true e = refl
    go false e = rw (eq-eqb a b (omega (arith, ltb-false a b e)))

-- -a is at most b
pub below-zero : (a b : ℕ) → ltb 0 (a + b) || (eqb a b && (false || eqb a 0)) ≡ true
below-zero a b = go (ltb 0 (a + b)) refl
  where
    go : (t : Bool) → ltb 0 (a + b) ≡ t → t || (eqb a b && (false || eqb a 0)) ≡ true
    go true e = refl
    go false e = rw (eq-eqb a b (omega (arith, ltb-false 0 (a + b) e)), eq-eqb a 0 (omega (arith, ltb-false 0 (a + b) e)))

le-within : (x y : Float) (a c : ℕ) → Plain x → T (le x y) → HasValue y false a c → Within x a c
unfolding le
le-within nan y a c p h v = absurd p
le-within (inf true) y a c p h v = absurd (subst T p tt)
le-within (inf false) nan a c p h v = absurd v
le-within (inf false) (inf t) a c p h v = absurd v
le-within (inf false) (fin t n d) a c p h v = absurd h
le-within (fin true m e) y a c p h v = absurd (subst T p tt)
le-within (fin false m e) nan a c p h v = absurd v
le-within (fin false m e) (inf t) a c p h v = absurd v
le-within (fin false m e) (fin true n d) a c p h v = absurd (subst T v.0 tt)
le-within (fin false m e) (fin false n d) a c p h v =
    through (m * up e) (n * up d) a (down e) (down d) c (down_pos d) (or-le (m * up e * down d) (n * up d * down e) (T_true (ltb (m * up e * down d) (n * up d * down e) || (eqb (m * up e * down d) (n * up d * down e) && true)) h)) (le_of_eq v.1)
  where
    T_true : (t : Bool) → T t → t ≡ true
    T_true true h = refl
    T_true false h = absurd h

pub within-neg : (x : Float) (a c : ℕ) → Within x a c → Within (neg x) a c
unfolding neg
within-neg nan a c h = h
within-neg (inf s) a c h = h
within-neg (fin s m e) a c h = h

-- a / c is a value of the format
abbrev pub Exact : ℕ → ℕ → Type 0
Exact a c = HasValue (round binary64 false a c) false a c

plain-within : (n d a c : ℕ) → 0 < d → 0 < c → Exact a c → n * c ≤ a * d → Within (round binary64 false n d) a c
plain-within n d a c D C x h = le-within (round binary64 false n d) (round binary64 false a c) a c (plain-round binary64 n d) (round_mono binary64 n d a c D C h) x

pub round-within : (s : Bool) (n d a c : ℕ) → 0 < d → 0 < c → Exact a c → n * c ≤ a * d → Within (round binary64 s n d) a c
round-within false n d a c D C x h = plain-within n d a c D C x h
round-within true n d a c D C x h = subst (λ (z : Float). Within z a c) (round-neg binary64 false n d) (within-neg (round binary64 false n d) a c (plain-within n d a c D C x h))

-- ---- sums
sum-within : (s t : Bool) (x y d a b c : ℕ) → 0 < d → 0 < c → Exact (a + b) c → x * c ≤ a * d → y * c ≤ b * d → Within (sum binary64 s x t y d) (a + b) c
unfolding sum
sum-within s t x y d a b c D C E h g = go (beq s t) (ltb x y)
  where
    far : (z : ℕ) → z ≤ x + y → z * c ≤ (a + b) * d
    far z l = le_trans (mul-le-mul_right c l) (omega (arith, add-mul x y c, add-mul a b d))

    go : (u l : Bool) → Within (cond u (round binary64 s (x + y) d) (cond l (round binary64 t (y - x) d) (round binary64 (s && ltb y x) (x - y) d))) (a + b) c
    go true l = round-within s (x + y) d (a + b) c D C E (far (x + y) (omega arith))
    go false true = round-within t (y - x) d (a + b) c D C E (far (y - x) (omega arith))
    go false false = round-within (s && ltb y x) (x - y) d (a + b) c D C E (far (x - y) (omega arith))

cross-by : (m u e d a c : ℕ) → m * u * c ≤ a * e → m * u * d * c ≤ a * (e * d)
cross-by m u e d a c h = le_trans (le_of_eq (mul_right_comm (m * u) d c)) (le_trans (mul-le-mul_right d h) (le_of_eq (mul_assoc a e d)))

pub add-within : (x y : Float) (a b c : ℕ) → 0 < c → Exact (a + b) c → Within x a c → Within y b c → Within (add binary64 x y) (a + b) c
unfolding add
add-within nan y a b c C E h g = absurd h
add-within (inf s) y a b c C E h g = absurd h
add-within (fin s m e) nan a b c C E h g = absurd g
add-within (fin s m e) (inf t) a b c C E h g = absurd g
add-within (fin s m e) (fin t n d) a b c C E h g =
    sum-within s t (m * up e * down d) (n * up d * down e) (down e * down d) a b c (mul-pos (down_pos e) (down_pos d)) C E
    (cross-by m (up e) (down e) (down d) a c h) (subst (λ (z : ℕ). n * up d * down e * c ≤ b * z) (mul_comm (down d) (down e)) (cross-by n (up d) (down d) (down e) b c g))

-- ---- remainders. Not below zero: a sign only on a zero
abbrev pub Low : Float → Type 0
Low nan = ⊥
Low (inf s) = s ≡ false
Low (fin s m e) = (s ≡ false) ⊎ (m ≡ 0)

pub low-plain : (x : Float) → Plain x → Low x
low-plain nan h = h
low-plain (inf s) h = h
low-plain (fin s m e) h = inl h

zero-factor : (m u : ℕ) → 0 < u → m * u ≡ 0 → m ≡ 0
zero-factor m u h e = eq_of_mul-eq-mul_right u h m 0 (e ∙ sym (zero-mul u))

module _ (n : ℕ) (d : ℤ) (n_pos : 0 < n) (E : Exact (n * up d) (down d)) where
  rem-within : (x : Float) → T (is_finite x) → Within (rem binary64 x (fin false n d)) (n * up d) (down d)
  unfolding rem
  rem-within nan h = absurd h
  rem-within (inf s) h = absurd h
  rem-within (fin s m e) h =
      let B = n * up d * down e in
      let l : m * up e * down d % B < B = mod-lt (m * up e * down d) (mul-pos (mul-pos n_pos (up_pos d)) (down_pos e)) in
      rw (ne_eqb n 0 (not-zero n n_pos))
      (round-within s (m * up e * down d % B) (down e * down d) (n * up d) (down d) (mul-pos (down_pos e) (down_pos d)) (down_pos d) E
      (le_trans (mul-le-mul_right (down d) (le_of_lt l)) (le_of_eq (mul_assoc (n * up d) (down e) (down d)))))
    where
      not-zero : (n : ℕ) → 0 < n → n ≡ 0 → ⊥
      not-zero n h e = omega arith

  -- a remainder below zero, with y added
  pub lifted : (A B C : ℕ) → 0 < C → A ≤ B → B * down d ≤ n * up d * C → Plain (sum binary64 true A false B C) × Within (sum binary64 true A false B C) (n * up d) (down d)
  unfolding sum
  lifted A B C Cp h g = go (ltb A B) (ltb B A) refl refl
    where
      keep : (z : ℕ) → z ≤ B → Within (round binary64 false z C) (n * up d) (down d)
      keep z l = round-within false z C (n * up d) (down d) Cp (down_pos d) E (le_trans (mul-le-mul_right (down d) l) g)

      go : (l k : Bool) → ltb A B ≡ l → ltb B A ≡ k → Plain (cond l (round binary64 false (B - A) C) (round binary64 k (A - B) C)) × Within (cond l (round binary64 false (B - A) C) (round binary64 k (A - B) C)) (n * up d) (down d)
      go true k p q = (plain-round binary64 (B - A) C, keep (B - A) (omega arith))
      go false true p q = absurd (omega (arith, ltb-true B A q))
      go false false p q = (plain-round binary64 (A - B) C, keep (A - B) (omega arith))

  euclid : (r : Float) → Within r (n * up d) (down d) → let z = cond (lt r (lit 0)) (add binary64 r (mag (fin false n d))) r in Low z × Within z (n * up d) (down d)
  unfolding lt of_bits mag add
  euclid nan h = absurd h
  euclid (inf s) h = absurd h
  euclid (fin true m e) h = go (ltb 0 (m * up e * 1 + 0 * 1 * down e)) refl
    where
      go : (l : Bool) → ltb 0 (m * up e * 1 + 0 * 1 * down e) ≡ l
          → Low (cond l (sum binary64 true (m * up e * down d) false (n * up d * down e) (down e * down d)) (fin true m e)) × Within (cond l (sum binary64 true (m * up e * down d) false (n * up d * down e) (down e * down d)) (fin true m e)) (n * up d) (down d)
      go true p =
          let k = lifted (m * up e * down d) (n * up d * down e) (down e * down d) (mul-pos (down_pos e) (down_pos d)) h (le_of_eq (mul_assoc (n * up d) (down e) (down d))) in
          (low-plain (sum binary64 true (m * up e * down d) false (n * up d * down e) (down e * down d)) k.0, k.1)
      go false p = (inr (zero-factor m (up e) (up_pos e) (omega (arith, ltb-false 0 (m * up e * 1 + 0 * 1 * down e) p))), h)
  euclid (fin false m e) h = rw (le-ltb (m * up e * 1) (0 * 1 * down e) (omega arith)) (inl refl, h)

  pub euclid-within : (x : Float) → T (is_finite x) → Low (rem_euclid x (fin false n d)) × Within (rem_euclid x (fin false n d)) (n * up d) (down d)
  euclid-within x h = euclid (rem binary64 x (fin false n d)) (rem-within x h)

-- as the program compares
pub low-le : (x : Float) → Low x → le (lit 0) x ≡ true
unfolding le of_bits
low-le nan h = absurd h
low-le (inf true) h = absurd (subst T h tt)
low-le (inf false) h = refl
low-le (fin true m e) h = ⊎_elim (λ z. absurd (subst T z tt)) (λ z. rw (eq-eqb (0 * 1 * down e) (m * up e * 1) (zeros z), eq-eqb (0 * 1 * down e) 0 (omega arith))) h
  where
    zeros : m ≡ 0 → 0 * 1 * down e ≡ m * up e * 1
    zeros z = rw z (omega arith)
low-le (fin false m e) h = le-or (0 * 1 * down e) (m * up e * 1) (omega arith)

pub within-le : (x : Float) (n : ℕ) (d : ℤ) → Within x (n * up d) (down d) → le x (fin false n d) ≡ true
unfolding le
within-le nan n d h = absurd h
within-le (inf s) n d h = absurd h
within-le (fin true m e) n d h = below-zero (m * up e * down d) (n * up d * down e)
within-le (fin false m e) n d h = le-or (m * up e * down d) (n * up d * down e) h

-- ---- rem_euclid by FRAC_PI_2 and by TAU: 884279719003555 / 2 ^ 49 and / 2 ^ 47
pub exact-quarter : Exact (884279719003555 * up (negsuc 48)) (down (negsuc 48))
unfolding round
exact-quarter = (refl, refl)

pub exact-tau : Exact (884279719003555 * up (negsuc 46)) (down (negsuc 46))
unfolding round
exact-tau = (refl, refl)

pub record Between (z y : Float) : Type 0 where
  pub from : le (lit 0) z ≡ true
  pub to : le z y ≡ true

pub quarter-is : FRAC-PI-2 ≡ fin false 884279719003555 (negsuc 48)
unfolding of_bits
quarter-is = refl

pub tau-is : TAU ≡ fin false 884279719003555 (negsuc 46)
unfolding of_bits
tau-is = refl

pub pi-is : PI ≡ fin false 884279719003555 (negsuc 47)
unfolding of_bits
pi-is = refl

-- closed at the upper end: the sum of a small negative remainder and y rounds to y
pub rem-quarter : (x : Float) → T (is_finite x) → Between (rem_euclid x FRAC-PI-2) FRAC-PI-2
rem-quarter x h =
    subst (λ (y : Float). Between (rem_euclid x y) y) (sym quarter-is)
    (let k = euclid-within 884279719003555 (negsuc 48) (lit< tt) exact-quarter x h in
    record { from = low-le (rem_euclid x (fin false 884279719003555 (negsuc 48))) k.0; to = within-le (rem_euclid x (fin false 884279719003555 (negsuc 48))) 884279719003555 (negsuc 48) k.1 })

pub rem-tau : (x : Float) → T (is_finite x) → Between (rem_euclid x TAU) TAU
rem-tau x h =
    subst (λ (y : Float). Between (rem_euclid x y) y) (sym tau-is)
    (let k = euclid-within 884279719003555 (negsuc 46) (lit< tt) exact-tau x h in
    record { from = low-le (rem_euclid x (fin false 884279719003555 (negsuc 46))) k.0; to = within-le (rem_euclid x (fin false 884279719003555 (negsuc 46))) 884279719003555 (negsuc 46) k.1 })
