-- Signs: a product's factors either way round, a difference turned round, and what is not negative. Assumes nothing.
use Rattle.std.proofs.Common.{◌≡◌, ℕ, zero, suc, ◌+◌, ◌-◌, ◌*◌, ◌^◌, ◌<◌, ◌≤◌, Bool, true, false, cond, not, ◌&&◌, ◌||◌, T, eqb, ltb, ◌⊎◌, ℤ, sym, refl, ap, ◌∙◌, subst, inl, inr, mul_comm, add_comm, mul-pos, zero-mul, arith, ltb-false, ltb-true, le-ltb, eq-eqb}
use native.Mathlib.Nat.{eq_of_mul-eq-mul_right}
use mathlib.Core.Bool.{beq}
use lib.Ieee.{Float, nan, inf, fin, Format, prec, emax, low, up, down, odd, units, round, sum, neg, add, sub, mul, lt, le, ne, of_bits, unlike}
use lib.Ieee.Fits.{down_pos, up_pos}
use lib.Ieee.Exact.{HasValue, round_exact}
use Rattle.float.specs.Double.{lit, mag, is_finite, max_of}

-- ---- the sign goes through `round`
odd-neg : (d : ℕ) (s : Bool) (q k l : ℕ) → neg (odd d s q k l) ≡ odd d (not s) q k l
unfolding neg odd
odd-neg d s zero k l = refl
odd-neg d s (suc q) k l = refl

units-neg : (f : Format) (s : Bool) (q k : ℕ) → neg (units f s q k) ≡ units f (not s) q k
unfolding units
units-neg f s q k = go (ltb (q * 2 ^ k) (2 ^ (low f + suc (emax f))))
  where
    go : (b : Bool) → neg (cond b (odd (suc (prec f)) s q k (low f)) (inf s)) ≡ cond b (odd (suc (prec f)) (not s) q k (low f)) (inf (not s))
    go true = odd-neg (suc (prec f)) s q k (low f)
    go false = unfold neg in refl

pub round-neg : (f : Format) (s : Bool) (n d : ℕ) → neg (round f s n d) ≡ round f (not s) n d
unfolding round
round-neg f s n d = units-neg f s _ _

-- ---- products
unlike-either : (s t : Bool) → unlike s t ≡ unlike t s
unlike-either true true = refl
unlike-either true false = refl
unlike-either false true = refl
unlike-either false false = refl

pub mul-either : (f : Format) (x y : Float) → mul f x y ≡ mul f y x
unfolding mul
mul-either f nan nan = refl
mul-either f nan (inf t) = refl
mul-either f nan (fin t n d) = refl
mul-either f (inf s) nan = refl
mul-either f (inf s) (inf t) = ap inf (unlike-either s t)
mul-either f (inf s) (fin t n d) = ap (λ (u : Bool). cond (eqb n 0) nan (inf u)) (unlike-either s t)
mul-either f (fin s m e) nan = refl
mul-either f (fin s m e) (inf t) = ap (λ (u : Bool). cond (eqb m 0) nan (inf u)) (unlike-either s t)
mul-either f (fin s m e) (fin t n d) = rw (unlike-either s t, mul_comm (m * up e) (n * up d), mul_comm (down e) (down d))

-- ---- differences: y - x is -(x - y), but where both are +0
-- a zero of either sign, or no number
abbrev pub Flat : Float → Type 0
Flat nan = Unit {0}
Flat (inf s) = ⊥
Flat (fin s m e) = m ≡ 0

abbrev pub Opposite : Float → Float → Type 0
Opposite r r' = (r' ≡ neg r) ⊎ ((r' ≡ r) × Flat r)

zero-factor : (m u : ℕ) → 0 < u → m * u ≡ 0 → m ≡ 0
zero-factor m u h e = eq_of_mul-eq-mul_right u h m 0 (e ∙ sym (zero-mul u))

flat-value : (x : Float) (s : Bool) (c : ℕ) → 0 < c → HasValue x s 0 c → Flat x
flat-value nan s c C v = tt
flat-value (inf t) s c C v = v
flat-value (fin t m e) s c C v = zero-factor m (up e) (up_pos e) (zero-factor (m * up e) c C (v.1 ∙ zero-mul (down e)))

pub flat-round : (f : Format) (s : Bool) (n c : ℕ) → 0 < c → n ≡ 0 → Flat (round f s n c)
flat-round f s n c C e = rw e (flat-value (round f s 0 c) s c C (round_exact f s 0 c 0 0 C (pos-pow f) (big f) (simp zero-mul)))
  where
    pos-pow : (f : Format) → 0 < 2 ^ prec f
    pos-pow f = lib.Pow.pow_pos (prec f)

    big : (f : Format) → 0 * 2 ^ 0 < 2 ^ (low f + suc (emax f))
    big f = lib.Pow.pow_pos (low f + suc (emax f))

sum-turned : (f : Format) (s t : Bool) (a b c : ℕ) → 0 < c → Opposite (sum f s a (not t) b c) (sum f t b (not s) a c)
unfolding sum
sum-turned f s t a b c C = go s t (ltb a b) (ltb b a) refl refl
  where
    flip : (s : Bool) (n : ℕ) → round f (not s) n c ≡ neg (round f s n c)
    flip s n = sym (round-neg f s n c)

    level : a ≡ b → Opposite (round f false (a - b) c) (round f false (b - a) c)
    level e = rw e (inr (refl, flat-round f false (b - b) c C (omega arith)))

    go : (s t l m : Bool) → ltb a b ≡ l → ltb b a ≡ m
        → Opposite (cond (beq s (not t)) (round f s (a + b) c) (cond l (round f (not t) (b - a) c) (round f (s && m) (a - b) c)))
        (cond (beq t (not s)) (round f t (b + a) c) (cond m (round f (not s) (a - b) c) (round f (t && l) (b - a) c)))
    go true false l m p q = inl (rw (add_comm b a) (flip true (a + b)))
    go false true l m p q = inl (rw (add_comm b a) (flip false (a + b)))
    go true true true true p q = absurd (omega (arith, ltb-true a b p, ltb-true b a q))
    go true true true false p q = inl (flip false (b - a))
    go true true false true p q = inl (flip true (a - b))
    go true true false false p q = level (omega (arith, ltb-false a b p, ltb-false b a q))
    go false false true true p q = absurd (omega (arith, ltb-true a b p, ltb-true b a q))
    go false false true false p q = inl (flip true (b - a))
    go false false false true p q = inl (flip false (a - b))
    go false false false false p q = level (omega (arith, ltb-false a b p, ltb-false b a q))

pub sub-opposite : (f : Format) (x y : Float) → Opposite (sub f x y) (sub f y x)
unfolding sub neg
sub-opposite f nan nan = inl refl
sub-opposite f nan (inf t) = inl refl
sub-opposite f nan (fin t n d) = inl refl
sub-opposite f (inf s) nan = inl refl
sub-opposite f (inf true) (inf true) = inl refl
sub-opposite f (inf true) (inf false) = inl refl
sub-opposite f (inf false) (inf true) = inl refl
sub-opposite f (inf false) (inf false) = inl refl
sub-opposite f (inf s) (fin t n d) = inl refl
sub-opposite f (fin s m e) nan = inl refl
sub-opposite f (fin s m e) (inf true) = inl refl
sub-opposite f (fin s m e) (inf false) = inl refl
sub-opposite f (fin s m e) (fin t n d) =
    subst (λ (c : ℕ). Opposite (sum f s (m * up e * down d) (not t) (n * up d * down e) (down e * down d)) (sum f t (n * up d * down e) (not s) (m * up e * down d) c)) (mul_comm (down e) (down d))
    (sum-turned f s t (m * up e * down d) (n * up d * down e) (down e * down d) (mul-pos (down_pos e) (down_pos d)))

-- ---- a value and its negative
pub mag-neg : (x : Float) → mag (neg x) ≡ mag x
unfolding mag neg
mag-neg nan = refl
mag-neg (inf s) = refl
mag-neg (fin s m e) = refl

ltb-alike : (a b c d : ℕ) → (a < b → c < d) → (c < d → a < b) → ltb a b ≡ ltb c d
ltb-alike a b c d f g = go (ltb a b) (ltb c d) refl refl
  where
    go : (x y : Bool) → ltb a b ≡ x → ltb c d ≡ y → x ≡ y
    go true true p q = refl
    go true false p q = absurd (omega (arith, ltb-false c d q, f (ltb-true a b p)))
    go false true p q = absurd (omega (arith, ltb-false a b p, g (ltb-true c d q)))
    go false false p q = refl

-- -x is negative where x is positive
pub lt-neg : (x : Float) → lt (neg x) (lit 0) ≡ lt (lit 0) x
unfolding lt neg of_bits
lt-neg nan = refl
lt-neg (inf true) = refl
lt-neg (inf false) = refl
lt-neg (fin true m e) = le-ltb (m * up e * 1) (0 * 1 * down e) (omega arith)
lt-neg (fin false m e) = ltb-alike 0 (m * up e * 1 + 0 * 1 * down e) (0 * 1 * down e) (m * up e * 1) (λ h. omega arith) (λ h. omega arith)

pub lt-neg' : (x : Float) → lt (lit 0) (neg x) ≡ lt x (lit 0)
unfolding lt neg of_bits
lt-neg' nan = refl
lt-neg' (inf true) = refl
lt-neg' (inf false) = refl
lt-neg' (fin true m e) = ltb-alike (0 * 1 * down e) (m * up e * 1) 0 (m * up e * 1 + 0 * 1 * down e) (λ h. omega arith) (λ h. omega arith)
lt-neg' (fin false m e) = sym (le-ltb (m * up e * 1) (0 * 1 * down e) (omega arith))

-- what is neither negative nor positive is flat
pub flat-between : (x : Float) → lt x (lit 0) ≡ false → lt (lit 0) x ≡ false → Flat x
unfolding lt of_bits
flat-between nan h g = tt
flat-between (inf true) h g = absurd (subst T h tt)
flat-between (inf false) h g = absurd (subst T g tt)
flat-between (fin true m e) h g = zero-factor m (up e) (up_pos e) (omega (arith, ltb-false 0 (m * up e * 1 + 0 * 1 * down e) h))
flat-between (fin false m e) h g = zero-factor m (up e) (up_pos e) (omega (arith, ltb-false (0 * 1 * down e) (m * up e * 1) g))

pub flat-lt : (x : Float) → Flat x → lt x (lit 0) ≡ false
unfolding lt of_bits
flat-lt nan h = refl
flat-lt (inf s) h = absurd h
flat-lt (fin true m e) h = rw h (le-ltb 0 (0 * up e * 1 + 0 * 1 * down e) (omega arith))
flat-lt (fin false m e) h = rw h (le-ltb (0 * up e * 1) (0 * 1 * down e) (omega arith))

-- ---- values without a sign: not a NaN, and not negative
abbrev pub Plain : Float → Type 0
Plain nan = ⊥
Plain (inf s) = s ≡ false
Plain (fin s m e) = s ≡ false

abbrev pub Number : Float → Type 0
Number nan = ⊥
Number (inf s) = Unit {0}
Number (fin s m e) = Unit {0}

plain-odd : (d q k l : ℕ) → Plain (odd d false q k l)
unfolding odd
plain-odd d zero k l = refl
plain-odd d (suc q) k l = refl

plain-units : (f : Format) (q k : ℕ) → Plain (units f false q k)
unfolding units
plain-units f q k = go (ltb (q * 2 ^ k) (2 ^ (low f + suc (emax f))))
  where
    go : (b : Bool) → Plain (cond b (odd (suc (prec f)) false q k (low f)) (inf false))
    go true = plain-odd (suc (prec f)) q k (low f)
    go false = refl

pub plain-round : (f : Format) (n d : ℕ) → Plain (round f false n d)
unfolding round
plain-round f n d = plain-units f _ _

pub number-plain : (x : Float) → Plain x → Number x
number-plain nan h = h
number-plain (inf s) h = tt
number-plain (fin s m e) h = tt

pub number-neg : (x : Float) → Number x → Number (neg x)
unfolding neg
number-neg nan h = h
number-neg (inf s) h = tt
number-neg (fin s m e) h = tt

pub number-round : (f : Format) (s : Bool) (n d : ℕ) → Number (round f s n d)
number-round f false n d = number-plain (round f false n d) (plain-round f n d)
number-round f true n d = subst Number (round-neg f false n d) (number-neg (round f false n d) (number-plain (round f false n d) (plain-round f n d)))

number-sum : (f : Format) (s t : Bool) (a b c : ℕ) → Number (sum f s a t b c)
unfolding sum
number-sum f s t a b c = go (beq s t) (ltb a b)
  where
    go : (d l : Bool) → Number (cond d (round f s (a + b) c) (cond l (round f t (b - a) c) (round f (s && ltb b a) (a - b) c)))
    go true l = number-round f s (a + b) c
    go false true = number-round f t (b - a) c
    go false false = number-round f (s && ltb b a) (a - b) c

-- the difference of two finite values is a number, though perhaps an infinity
pub sub_number : (f : Format) (x y : Float) → T (is_finite x) → T (is_finite y) → Number (sub f x y)
unfolding sub
sub_number f nan y h g = absurd h
sub_number f (inf s) y h g = absurd h
sub_number f (fin s m e) nan h g = absurd g
sub_number f (fin s m e) (inf t) h g = absurd g
sub_number f (fin s m e) (fin t n d) h g = number-sum f s (not t) (m * up e * down d) (n * up d * down e) (down e * down d)

pub square-plain : (f : Format) (x : Float) → Number x → Plain (mul f x x)
unfolding mul
square-plain f nan h = h
square-plain f (inf true) h = refl
square-plain f (inf false) h = refl
square-plain f (fin true m e) h = plain-round f (m * up e * (m * up e)) (down e * down e)
square-plain f (fin false m e) h = plain-round f (m * up e * (m * up e)) (down e * down e)

pub add-plain : (f : Format) (x y : Float) → Plain x → Plain y → Plain (add f x y)
unfolding add
add-plain f nan y h g = absurd h
add-plain f (inf true) y h g = absurd (subst T h tt)
add-plain f (inf false) nan h g = absurd g
add-plain f (inf false) (inf true) h g = absurd (subst T g tt)
add-plain f (inf false) (inf false) h g = refl
add-plain f (inf false) (fin t n d) h g = refl
add-plain f (fin true m e) y h g = absurd (subst T h tt)
add-plain f (fin false m e) nan h g = absurd g
add-plain f (fin false m e) (inf t) h g = g
add-plain f (fin false m e) (fin true n d) h g = absurd (subst T g tt)
add-plain f (fin false m e) (fin false n d) h g = plain-round f (m * up e * down d + n * up d * down e) (down e * down d)

pub max-plain : (x y : Float) → Plain x → Plain y → Plain (max_of x y)
max-plain x y h g = go (lt x y) (ne x x)
  where
    go : (a b : Bool) → Plain (cond a y (cond b y x))
    go true b = g
    go false true = g
    go false false = h

-- a positive finite value times such a value
pub mul-plain : (f : Format) (m : ℕ) (e : ℤ) (y : Float) → eqb m 0 ≡ false → Plain y → Plain (mul f (fin false m e) y)
unfolding mul
mul-plain f m e nan z h = absurd h
mul-plain f m e (inf true) z h = absurd (subst T h tt)
mul-plain f m e (inf false) z h = rw z refl
mul-plain f m e (fin true n d) z h = absurd (subst T h tt)
mul-plain f m e (fin false n d) z h = plain-round f (m * up e * (n * up d)) (down e * down d)

-- a zero is at most every such value
pub flat-le : (m : ℕ) (e : ℤ) (y : Float) → m ≡ 0 → Plain y → le (fin false m e) y ≡ true
unfolding le
flat-le m e nan z h = absurd h
flat-le m e (inf true) z h = absurd (subst T h tt)
flat-le m e (inf false) z h = refl
flat-le m e (fin true n d) z h = absurd (subst T h tt)
flat-le m e (fin false n d) z h = go (ltb (m * up e * down d) (n * up d * down e)) refl
  where
    go : (b : Bool) → ltb (m * up e * down d) (n * up d * down e) ≡ b → b || (eqb (m * up e * down d) (n * up d * down e) && true) ≡ true
    go true p = refl
    go false p = rw (eq-eqb (m * up e * down d) (n * up d * down e) (both (m * up e * down d) (n * up d * down e) (rw z (zero_of (up e) (down d))) (ltb-false (m * up e * down d) (n * up d * down e) p)))
      where
        zero_of : (u d : ℕ) → 0 * u * d ≡ 0
        zero_of u d = simp zero-mul

        both : (a b : ℕ) → a ≡ 0 → b ≤ a → a ≡ b
        both a b h g = omega arith
