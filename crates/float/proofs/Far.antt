-- Two different doubles of which one is very large lie far apart: the square of their difference is infinite. And the middle of two doubles that are not
-- so large is finite. Assumes nothing.
use Rattle.std.proofs.Common.{◌≡◌, ℕ, suc, ◌+◌, ◌-◌, ◌*◌, ◌^◌, ◌<◌, ◌≤◌, Bool, true, false, cond, not, ◌&&◌, T, eqb, ltb, leb, ◌⊎◌, ℤ, pos, negsuc, sym, refl, ap, ◌∙◌, subst, inl, inr, le_trans, le_of_eq, mul-le-mul_right, mul_assoc, mul_comm, add-mul, mul-le-mul, add_comm, mul-pos, one-mul, mul-one, mul_left_comm, arith, eqb→eq, leb→le, pow_pos, pow_mono, pow-add, ltb-false, ltb-true, leb-false, leb-true}
use native.Mathlib.Nat.{mul-mul-mul_comm}
use native.Mathlib.Decide.{ℕ_discrete}
use mathlib.Core.Bool.{beq}
use lib.Ieee.{Float, nan, inf, fin, binary64, up, down, round, sum, sub, mul, neg, le, of_bits, fits, unlike}
use lib.Ieee.Fits.{down_pos, and_r}
use lib.Ieee.Bits.{is_true}
use lib.Ieee.Order.{round_mono}
use Rattle.float.specs.Double.{HALF, is_finite, ◌⊕◌, ◌⊖◌, ◌⊗◌}
use Rattle.float.proofs.Sign.{round-neg}
use Rattle.float.proofs.Rem.{held_any}
use Rattle.float.proofs.Own.{same-value, round-own}
use Rattle.float.proofs.Within.{Within, add-within, round-within, or-le}

-- ---- multiples of 2 ^ 969

-- a double of size 2 ^ 1021 or more is one
abbrev Multiple : ℕ → ℤ → Type 0
Multiple m e = (down e ≡ 1) × ((k : ℕ) × (m * up e ≡ k * 2 ^ 969))

large-multiple : (m : ℕ) (e : ℤ) → m < 2 ^ 53 → 2 ^ 1021 * down e ≤ m * up e → Multiple m e
large-multiple m (negsuc k) h g = absurd (small (2 ^ suc k) (2 ^ 1021) (2 ^ 53) m (pow_pos (suc k)) tt h g)
  where
    small : (d p q m : ℕ) → 0 < d → T (leb q p) → m < q → p * d ≤ m * 1 → ⊥
    small d p q m D l h g = let z : p ≤ p * d = le_trans (le_of_eq (sym (mul-one p))) (le_trans (le_of_eq (mul_comm p 1)) (le_trans (mul-le-mul_right p D) (le_of_eq (mul_comm d p)))) in absurd (omega (arith, leb→le q p l))
large-multiple m (pos k) h g = (refl, go (leb 969 k) refl)
  where
    go : (b : Bool) → leb 969 k ≡ b → (j : ℕ) × (m * 2 ^ k ≡ j * 2 ^ 969)
    go true e =
        let l : 969 ≤ k = leb-true 969 k e in
        let z : 2 ^ k ≡ 2 ^ (k - 969) * 2 ^ 969 = ap (λ (i : ℕ). 2 ^ i) (omega arith) ∙ pow-add 2 (k - 969) 969 in
        (m * 2 ^ (k - 969), ap (λ (i : ℕ). m * i) z ∙ sym (mul_assoc m (2 ^ (k - 969)) (2 ^ 969)))
    go false e = let l : k ≤ 968 = omega (arith, leb-false 969 k e) in absurd (few (2 ^ k) (2 ^ 53) (2 ^ 968) m (pow_pos 968) h (pow_mono l) g)
      where
        few : (u q p m : ℕ) → 0 < p → m < q → u ≤ p → q * p * 1 ≤ m * u → ⊥
        few u q p m P h l g =
            let x : m * u ≤ m * p = le_trans (le_of_eq (mul_comm m u)) (le_trans (mul-le-mul_right m l) (le_of_eq (mul_comm p m))) in
            let y : suc m * p ≤ q * p = mul-le-mul_right p h in
            let z : suc m * p ≡ m * p + p = omega arith in
            absurd (omega arith)

-- ---- fractions that are 2 ^ 969 or more

-- x is an infinity, or 2 ^ 969 or more in size
abbrev pub Far : Float → Type 0
Far nan = ⊥
Far (inf s) = Unit {0}
Far (fin s m e) = 2 ^ 969 * down e ≤ m * up e

far-le : (x : Float) → T (le (fin false 1 (pos 969)) x) → Far x
unfolding le
far-le nan h = absurd h
far-le (inf s) h = tt
far-le (fin true m e) h = absurd (none (1 * 2 ^ 969 * down e) (mul-pos (mul-pos (pow_pos 0) (pow_pos 969)) (down_pos e)) (m * up e * 1) h)
  where
    none : (a : ℕ) → 0 < a → (b : ℕ) → T (eqb a b && eqb a 0) → ⊥
    none a p b h = let z : a ≡ 0 = eqb→eq a 0 (and_r (eqb a b) (eqb a 0) h) in omega arith
far-le (fin false m e) h = plain (2 ^ 969) (down e) (m * up e) (or-le (1 * 2 ^ 969 * down e) (m * up e * 1) (is_true _ h))
  where
    plain : (p d a : ℕ) → 1 * p * d ≤ a * 1 → p * d ≤ a
    plain p d a h = omega arith

far-neg : (x : Float) → Far (neg x) → Far x
unfolding neg
far-neg nan h = h
far-neg (inf s) h = h
far-neg (fin s m e) h = h

-- what rounds such a fraction is far
far-plain : (n d : ℕ) → 0 < d → 2 ^ 969 * d ≤ n → Far (round binary64 false n d)
far-plain n d D h =
    far-le (round binary64 false n d)
    (subst (λ (z : Float). T (le z (round binary64 false n d))) (round-own binary64 false 1 (pos 969) (unfold fits in tt))
    (round_mono binary64 (1 * 2 ^ 969) 1 n d (pow_pos 0) D (plain (2 ^ 969) n d h)))
  where
    plain : (p n d : ℕ) → p * d ≤ n → 1 * p * d ≤ n * 1
    plain p n d h = omega arith

far-round : (s : Bool) (n d : ℕ) → 0 < d → 2 ^ 969 * d ≤ n → Far (round binary64 s n d)
far-round false n d D h = far-plain n d D h
far-round true n d D h = far-neg (round binary64 true n d) (subst Far (sym (round-neg binary64 true n d)) (far-plain n d D h))

-- its square is infinite
overflows : (x : Float) → T (le (inf false) x) → x ≡ inf false
unfolding le
overflows nan h = absurd h
overflows (inf true) h = absurd h
overflows (inf false) h = refl
overflows (fin s m e) h = absurd h

pub far-square : (x : Float) → Far x → x ⊗ x ≡ inf false
unfolding mul
far-square nan h = absurd h
far-square (inf true) h = refl
far-square (inf false) h = refl
far-square (fin s m e) h = ap (λ (t : Bool). round binary64 t (m * up e * (m * up e)) (down e * down e)) (alike s) ∙ overflows _ bound
  where
    alike : (s : Bool) → unlike s s ≡ false
    alike true = refl
    alike false = refl

    squared : (p d a : ℕ) → p * d ≤ a → p * p * (d * d) ≤ a * a * 1
    squared p d a h = le_trans (le_of_eq (mul-mul-mul_comm p p d d)) (le_trans (mul-le-mul h h) (le_of_eq (sym (mul-one (a * a)))))

    bound : T (le (inf false) (round binary64 false (m * up e * (m * up e)) (down e * down e)))
    bound =
        subst (λ (z : Float). T (le z (round binary64 false (m * up e * (m * up e)) (down e * down e)))) (unfold round in refl)
        (round_mono binary64 (2 ^ 969 * 2 ^ 969) 1 (m * up e * (m * up e)) (down e * down e) (pow_pos 0) (mul-pos (down_pos e) (down_pos e)) (squared (2 ^ 969) (down e) (m * up e) h))

-- ---- differences

-- a / c and b / c are 2 ^ 969 or more apart
abbrev Gap : ℕ → ℕ → ℕ → Type 0
Gap a b c = (b + 2 ^ 969 * c ≤ a) ⊎ (a + 2 ^ 969 * c ≤ b)

far-sum : (s t : Bool) (a b c : ℕ) → 0 < c → 2 ^ 969 * c ≤ a + b → (s ≡ t → Gap a b c) → Far (sum binary64 s a (not t) b c)
unfolding sum
far-sum s t a b c C h gap = signs s t gap
  where
    -- p stands for 2 ^ 969
    under : (p : ℕ) → (b + p * c ≤ a) ⊎ (a + p * c ≤ b) → a < b → p * c ≤ b - a
    under p (inl g) l = omega arith
    under p (inr g) l = omega arith

    over : (p : ℕ) → (b + p * c ≤ a) ⊎ (a + p * c ≤ b) → b ≤ a → p * c ≤ a - b
    over p (inl g) l = omega arith
    over p (inr g) l = omega arith

    like : (u v : Bool) → Gap a b c → (l : Bool) → ltb a b ≡ l → Far (cond l (round binary64 u (b - a) c) (round binary64 v (a - b) c))
    like u v g true e = far-round u (b - a) c C (under (2 ^ 969) g (ltb-true a b e))
    like u v g false e = far-round v (a - b) c C (over (2 ^ 969) g (ltb-false a b e))

    signs : (s t : Bool) → (s ≡ t → Gap a b c) → Far (cond (beq s (not t)) (round binary64 s (a + b) c) (cond (ltb a b) (round binary64 (not t) (b - a) c) (round binary64 (s && ltb b a) (a - b) c)))
    signs true true gap = like false (true && ltb b a) (gap refl) (ltb a b) refl
    signs true false gap = far-round true (a + b) c C h
    signs false true gap = far-round false (a + b) c C h
    signs false false gap = like true (false && ltb b a) (gap refl) (ltb a b) refl

-- x is finite, and 2 ^ 1022 or more in size
abbrev pub Large : Float → Type 0
Large nan = ⊥
Large (inf s) = ⊥
Large (fin s m e) = 2 ^ 1022 * down e ≤ m * up e

-- of a large double and another of the same sign: they are equal, or far apart
module _ (m n : ℕ) (e d : ℤ) (few : m < 2 ^ 53) (few' : n < 2 ^ 53) (large : 2 ^ 1022 * down e ≤ m * up e) where
  -- with p for 2 ^ 969, q for 2 ^ 52 and r for 2 ^ 1021
  less : (p q r a b u v : ℕ) → r ≡ q * p → 0 < q → 2 * r * u ≤ a → b < r * v → b * u + p * (u * v) ≤ a * v
  less p q r a b u v R Q h g =
      let x : 2 * r * u * v ≤ a * v = mul-le-mul_right v h in
      let y : suc b * u ≤ r * v * u = mul-le-mul_right u g in
      let z : p * (u * v) ≤ q * (p * (u * v)) = le_trans (le_of_eq (sym (one-mul (p * (u * v))))) (mul-le-mul_right (p * (u * v)) Q) in
      let w : q * (p * (u * v)) ≡ q * p * v * u = simp (mul_assoc, mul_comm, mul_left_comm) in
      let i : q * (p * (u * v)) ≡ r * v * u = w ∙ ap (λ (k : ℕ). k * v * u) (sym R) in
      let j : 2 * r * u * v ≡ r * v * u + r * v * u = omega (arith, mul_assoc (2 * r) u v, mul_comm u v, mul_assoc (2 * r) v u, mul_assoc r v u, mul_assoc 2 r (v * u)) in
      let k : b * u ≤ suc b * u = mul-le-mul_right u (omega arith) in
      omega arith

  apart : (k j : ℕ) → m * up e ≡ k * 2 ^ 969 → n * up d ≡ j * 2 ^ 969 → down e ≡ 1 → down d ≡ 1
      → (m * up e * down d ≡ n * up d * down e) ⊎ Gap (m * up e * down d) (n * up d * down e) (down e * down d)
  apart k j x y u v = go (ℕ_discrete k j) (leb k j) refl
    where
      a : m * up e * down d ≡ k * 2 ^ 969
      a = ap (λ (z : ℕ). m * up e * z) v ∙ mul-one (m * up e) ∙ x

      b : n * up d * down e ≡ j * 2 ^ 969
      b = ap (λ (z : ℕ). n * up d * z) u ∙ mul-one (n * up d) ∙ y

      c : down e * down d ≡ 1
      c = ap (λ (z : ℕ). z * down d) u ∙ one-mul (down d) ∙ v

      -- i and i + 1 multiples of p are p apart
      step : (i h p : ℕ) → i < h → i * p + p * 1 ≤ h * p
      step i h p l = let z : suc i * p ≤ h * p = mul-le-mul_right p l in omega arith

      go : Dec (k ≡ j) → (t : Bool) → leb k j ≡ t → (m * up e * down d ≡ n * up d * down e) ⊎ Gap (m * up e * down d) (n * up d * down e) (down e * down d)
      go (yes z) t f = inl (a ∙ ap (λ (i : ℕ). i * 2 ^ 969) z ∙ sym b)
      go (no z) true f = let l : k < j = omega (arith, leb-true k j f) in inr (inr (rw (a, b, c) (step k j (2 ^ 969) l)))
      go (no z) false f = let l : j < k = leb-false k j f in inr (inl (rw (a, b, c) (step j k (2 ^ 969) l)))

  alike : (m * up e * down d ≡ n * up d * down e) ⊎ Gap (m * up e * down d) (n * up d * down e) (down e * down d)
  alike = go (leb (2 ^ 1021 * down d) (n * up d)) refl
    where
      halved : (r u a : ℕ) → 2 * r * u ≤ a → r * u ≤ a
      halved r u a h = omega (arith, mul_assoc 2 r u)

      go : (t : Bool) → leb (2 ^ 1021 * down d) (n * up d) ≡ t → (m * up e * down d ≡ n * up d * down e) ⊎ Gap (m * up e * down d) (n * up d * down e) (down e * down d)
      go true f =
          let x = large-multiple m e few (halved (2 ^ 1021) (down e) (m * up e) large) in
          let y = large-multiple n d few' (leb-true (2 ^ 1021 * down d) (n * up d) f) in
          apart x.1.0 y.1.0 x.1.1 y.1.1 x.0 y.0
      go false f = inr (inl (less (2 ^ 969) (2 ^ 52) (2 ^ 1021) (m * up e) (n * up d) (down e) (down d) refl (pow_pos 52) large (leb-false (2 ^ 1021 * down d) (n * up d) f)))

  -- and of any sign, they add to no less
  enough : 2 ^ 969 * (down e * down d) ≤ m * up e * down d + n * up d * down e
  enough = wide (2 ^ 969) (2 ^ 53) (down e) (down d) (m * up e) (n * up d * down e) (pow_pos 53) large
    where
      wide : (p q u v a b : ℕ) → 0 < q → q * p * u ≤ a → p * (u * v) ≤ a * v + b
      wide p q u v a b Q h =
          let x : q * p * u * v ≤ a * v = mul-le-mul_right v h in
          let y : q * p * u * v ≡ q * (p * (u * v)) = simp (mul_assoc, mul_comm, mul_left_comm) in
          let z : p * (u * v) ≤ q * (p * (u * v)) = le_trans (le_of_eq (sym (one-mul (p * (u * v))))) (mul-le-mul_right (p * (u * v)) Q) in
          omega arith

-- a large double and another: they are equal, or their difference, taken either way, is far
pub far_apart : (x y : Float) → T (fits binary64 x) → T (fits binary64 y) → Large x → T (is_finite y) → (x ≡ y) ⊎ (Far (x ⊖ y) × Far (y ⊖ x))
unfolding sub
far_apart nan y p q h g = absurd h
far_apart (inf s) y p q h g = absurd h
far_apart (fin s m e) nan p q h g = absurd g
far_apart (fin s m e) (inf t) p q h g = absurd g
far_apart (fin s m e) (fin t n d) p q h g = signs s t p q
  where
    C : 0 < down e * down d
    C = mul-pos (down_pos e) (down_pos d)

    C' : 0 < down d * down e
    C' = mul-pos (down_pos d) (down_pos e)

    few : (s : Bool) (m : ℕ) (e : ℤ) → T (fits binary64 (fin s m e)) → m < 2 ^ 53
    few s m e t = (held_any binary64 s m e t).digits

    turned : (a b c c' : ℕ) → c ≡ c' → Gap a b c → Gap b a c'
    turned a b c c' z (inl l) = inr (rw (← z) l)
    turned a b c c' z (inr l) = inl (rw (← z) l)

    both : (s t : Bool) → T (fits binary64 (fin s m e)) → T (fits binary64 (fin t n d)) → (s ≡ t → Gap (m * up e * down d) (n * up d * down e) (down e * down d))
        → Far (sum binary64 s (m * up e * down d) (not t) (n * up d * down e) (down e * down d)) × Far (sum binary64 t (n * up d * down e) (not s) (m * up e * down d) (down d * down e))
    both s t p q gap =
        let w = enough m n e d (few s m e p) (few t n d q) h in (
          far-sum s t (m * up e * down d) (n * up d * down e) (down e * down d) C w gap,
          far-sum t s (n * up d * down e) (m * up e * down d) (down d * down e) C' (rw (mul_comm (down d) (down e), add_comm (n * up d * down e) (m * up e * down d)) w)
              (λ z. turned (m * up e * down d) (n * up d * down e) (down e * down d) (down d * down e) (mul_comm (down e) (down d)) (gap (sym z))),
        )

    same : (s : Bool) → T (fits binary64 (fin s m e)) → T (fits binary64 (fin s n d)) → (m * up e * down d ≡ n * up d * down e) ⊎ Gap (m * up e * down d) (n * up d * down e) (down e * down d)
        → (fin s m e ≡ fin s n d) ⊎ (Far (sum binary64 s (m * up e * down d) (not s) (n * up d * down e) (down e * down d)) × Far (sum binary64 s (n * up d * down e) (not s) (m * up e * down d) (down d * down e)))
    same s p q (inl z) = inl (same-value binary64 s m n e d p q z)
    same s p q (inr k) = inr (both s s p q (λ z. k))

    signs : (s t : Bool) → T (fits binary64 (fin s m e)) → T (fits binary64 (fin t n d))
        → (fin s m e ≡ fin t n d) ⊎ (Far (sum binary64 s (m * up e * down d) (not t) (n * up d * down e) (down e * down d)) × Far (sum binary64 t (n * up d * down e) (not s) (m * up e * down d) (down d * down e)))
    signs true true p q = same true p q (alike m n e d (few true m e p) (few true n d q) h)
    signs true false p q = inr (both true false p q (λ z. absurd (subst T z tt)))
    signs false true p q = inr (both false true p q (λ z. absurd (subst T (sym z) tt)))
    signs false false p q = same false p q (alike m n e d (few false m e p) (few false n d q) h)

-- ---- the middle

-- x is finite, and below 2 ^ 1022 in size, or it is large
pub large-or : (x : Float) → T (is_finite x) → Large x ⊎ Within x (2 ^ 1022) 1
large-or nan h = absurd h
large-or (inf s) h = absurd h
large-or (fin s m e) h = go (leb (2 ^ 1022 * down e) (m * up e)) refl
  where
    small : (p d a : ℕ) → a < p * d → a * 1 ≤ p * d
    small p d a h = omega arith

    go : (t : Bool) → leb (2 ^ 1022 * down e) (m * up e) ≡ t → (2 ^ 1022 * down e ≤ m * up e) ⊎ (m * up e * 1 ≤ 2 ^ 1022 * down e)
    go true f = inl (leb-true (2 ^ 1022 * down e) (m * up e) f)
    go false f = inr (small (2 ^ 1022) (down e) (m * up e) (leb-false (2 ^ 1022 * down e) (m * up e) f))

half-finite : (x : Float) → Within x (2 ^ 1022 + 2 ^ 1022) 1 → T (is_finite (HALF ⊗ x))
unfolding mul of_bits
half-finite nan h = absurd h
half-finite (inf s) h = absurd h
half-finite (fin s m e) h =
    within-finite (round binary64 (unlike false s) (1 * 1 * (m * up e)) (2 * down e)) (2 ^ 1022) 1
    (round-within (unlike false s) (1 * 1 * (m * up e)) (2 * down e) (2 ^ 1022) 1 (mul-pos (pow_pos 1) (down_pos e)) (pow_pos 0) (unfold round in (refl, refl)) (halved (2 ^ 1022) (m * up e) (down e) h))
  where
    halved : (p a d : ℕ) → a * 1 ≤ (p + p) * d → 1 * 1 * a * 1 ≤ p * (2 * d)
    halved p a d h = omega (arith, mul_left_comm p 2 d, add-mul p p d)

    within-finite : (x : Float) (a c : ℕ) → Within x a c → T (is_finite x)
    within-finite nan a c h = absurd h
    within-finite (inf s) a c h = absurd h
    within-finite (fin s m e) a c h = tt

-- half the sum of two that are not large is finite
pub middle-finite : (x y : Float) → Within x (2 ^ 1022) 1 → Within y (2 ^ 1022) 1 → T (is_finite (HALF ⊗ (x ⊕ y)))
middle-finite x y h g = half-finite (x ⊕ y) (add-within x y (2 ^ 1022) (2 ^ 1022) 1 (pow_pos 0) (unfold round in (refl, refl)) h g)
