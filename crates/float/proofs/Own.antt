-- A double is what rounding makes of its own value: a value of the format is written in one way. So the remainder of an x that is smaller than y in size is x. Assumes nothing.
use Rattle.std.proofs.Common.{◌≡◌, ℕ, zero, suc, ◌*◌, ◌%◌, ◌^◌, ◌<◌, ◌≤◌, Bool, true, ◌&&◌, T, eqb, ltb, leb, ℤ, pos, negsuc, sym, refl, ap, ◌∙◌, subst, mod-eq_of_lt, zero-lt-suc, mul_assoc, mul_comm, mul-pos, one-mul, pow-suc, zero-mul, mul-one, mul_left_comm, arith, eqb→eq, pow_pos, ltb-true, ne_eqb}
use native.Mathlib.Nat.{pow-succ', eq_of_mul-eq-mul_right}
use lib.Ieee.{Float, nan, inf, fin, Format, binary64, prec, emax, low, up, down, round, rem, lt, fits}
use lib.Ieee.Fits.{up_pos, down_pos, and_l, round-fits}
use lib.Ieee.Exact.{HasValue}
use lib.Ieee.Scale.{round_same}
use Rattle.float.specs.Double.{mag}
use Rattle.float.proofs.Rem.{held_any, units-exact, power}

-- ---- an odd number times a power of two is written in one way
even_odd : (m t : ℕ) → m % 2 ≡ 1 → m ≡ 2 * t → ⊥
even_odd m t o h = omega arith

odd_pow : (m n a b : ℕ) → m % 2 ≡ 1 → n % 2 ≡ 1 → m * 2 ^ a ≡ n * 2 ^ b → (m ≡ n) × (a ≡ b)
odd_pow m n zero zero o p h = (sym (mul-one m) ∙ h ∙ mul-one n, refl)
odd_pow m n zero (suc b) o p h = absurd (even_odd m (n * 2 ^ b) o (sym (mul-one m) ∙ h ∙ ap (λ (x : ℕ). n * x) (pow-succ' 2 b) ∙ mul_left_comm n 2 (2 ^ b)))
odd_pow m n (suc a) zero o p h = absurd (even_odd n (m * 2 ^ a) p (sym (mul-one n) ∙ sym h ∙ ap (λ (x : ℕ). m * x) (pow-succ' 2 a) ∙ mul_left_comm m 2 (2 ^ a)))
odd_pow m n (suc a) (suc b) o p h =
    let r = odd_pow m n a b o p (eq_of_mul-eq-mul_right 2 (zero-lt-suc 1) (m * 2 ^ a) (n * 2 ^ b)
    (mul_assoc m (2 ^ a) 2 ∙ ap (λ (x : ℕ). m * x) (sym (pow-suc 2 a)) ∙ h ∙ ap (λ (x : ℕ). n * x) (pow-suc 2 b) ∙ sym (mul_assoc n (2 ^ b) 2))) in
    (r.0, ap suc r.1)

two_up : (p : ℕ) → 0 < p → 2 * p ≡ 1 → ⊥
two_up p h e = omega arith

-- a power that is 1
not-one : (a : ℕ) → 2 ^ suc a ≡ 1 → ⊥
not-one a h = two_up (2 ^ a) (pow_pos a) (sym (pow-succ' 2 a) ∙ h)

up_one : (a b : ℕ) → 2 ^ a * 2 ^ suc b ≡ 1 → ⊥
up_one a b h = two_up (2 ^ a * 2 ^ b) (mul-pos (pow_pos a) (pow_pos b)) (sym (mul_left_comm (2 ^ a) 2 (2 ^ b)) ∙ ap (λ (x : ℕ). 2 ^ a * x) (sym (pow-succ' 2 b)) ∙ h)

-- equal exponents, by cross products
same-exponent : (e d : ℤ) → up e * down d ≡ up d * down e → e ≡ d
same-exponent (pos a) (pos b) h = ap pos (odd_pow 1 1 a b refl refl (one-mul (2 ^ a) ∙ sym (mul-one (2 ^ a)) ∙ h ∙ mul-one (2 ^ b) ∙ sym (one-mul (2 ^ b)))).1
same-exponent (pos a) (negsuc b) h = absurd (up_one a b h)
same-exponent (negsuc a) (pos b) h = absurd (up_one b a (sym h))
same-exponent (negsuc a) (negsuc b) h = ap negsuc (suc-same (odd_pow 1 1 (suc a) (suc b) refl refl (sym h)).1)
  where
    suc-same : {a b : ℕ} → suc a ≡ suc b → a ≡ b
    suc-same h = omega arith

-- ---- of a value that fits: m is odd, or it is 0 with the exponent 0
is_odd : (f : Format) (s : Bool) (m : ℕ) (e : ℤ) → T (fits f (fin s (suc m) e)) → suc m % 2 ≡ 1
unfolding fits
is_odd f s m e t =
    let a : Bool = eqb (suc m % 2) 1 in
    let b : Bool = ltb (suc m) (2 ^ prec f) in
    let c : Bool = leb (down e) (2 ^ low f) in
    eqb→eq (suc m % 2) 1 (and_l a b (and_l (a && b) c (and_l (a && b && c) (ltb (suc m * up e) (2 ^ suc (emax f) * down e)) t)))

flat : (e : ℤ) → up e * down e ≡ 1 → e ≡ pos 0
flat (pos zero) h = refl
flat (pos (suc k)) h = absurd (not-one k (sym (mul-one (2 ^ suc k)) ∙ h))
flat (negsuc k) h = absurd (not-one k (sym (one-mul (2 ^ suc k)) ∙ h))

zero_exponent : (f : Format) (s : Bool) (e : ℤ) → T (fits f (fin s zero e)) → e ≡ pos 0
unfolding fits
zero_exponent f s e t = flat e (eqb→eq (up e * down e) 1 t)

no_zero : (n u d : ℕ) → 0 < u → 0 < d → suc n * u * d ≡ 0 → ⊥
no_zero n u d U D h = omega (arith, mul-pos (mul-pos (zero-lt-suc n) U) D)

-- equal values of the format, one given by its parts and the other by them too
pub same-value : (f : Format) (s : Bool) (m n : ℕ) (e d : ℤ) → T (fits f (fin s m e)) → T (fits f (fin s n d)) → m * up e * down d ≡ n * up d * down e → fin s m e ≡ fin s n d
same-value f s zero zero e d p q h = ap (λ (g : ℤ). fin s zero g) (zero_exponent f s e p ∙ sym (zero_exponent f s d q))
same-value f s zero (suc n) e d p q h = absurd (no_zero n (up d) (down e) (up_pos d) (down_pos e) (sym h ∙ ap (λ (z : ℕ). z * down d) (zero-mul (up e)) ∙ zero-mul (down d)))
same-value f s (suc m) zero e d p q h = absurd (no_zero m (up e) (down d) (up_pos e) (down_pos d) (h ∙ ap (λ (z : ℕ). z * down e) (zero-mul (up d)) ∙ zero-mul (down e)))
same-value f s (suc m) (suc n) e d p q h =
    let i = power e d in
    let j = power d e in
    let r = odd_pow (suc m) (suc n) i.0 j.0 (is_odd f s m e p) (is_odd f s n d q)
    (ap (λ (z : ℕ). suc m * z) (sym i.1) ∙ sym (mul_assoc (suc m) (up e) (down d)) ∙ h ∙ mul_assoc (suc n) (up d) (down e) ∙ ap (λ (z : ℕ). suc n * z) j.1) in
    let g : e ≡ d = same-exponent e d (i.1 ∙ ap (λ (k : ℕ). 2 ^ k) r.1 ∙ sym j.1) in
    λ k. fin s (r.0 k) (g k)

value-is : (f : Format) (x : Float) (s : Bool) (m : ℕ) (e : ℤ) → T (fits f x) → T (fits f (fin s m e)) → HasValue x s (m * up e) (down e) → x ≡ fin s m e
value-is f nan s m e p q v = absurd v
value-is f (inf t) s m e p q v = absurd v
value-is f (fin t n d) s m e p q v =
    let w : fin t n d ≡ fin s n d = ap (λ (b : Bool). fin b n d) v.0 in
    w ∙ same-value f s n m d e (subst (λ (y : Float). T (fits f y)) w p) q v.1

-- a value of the format, rounded
pub round-own : (f : Format) (s : Bool) (m : ℕ) (e : ℤ) → T (fits f (fin s m e)) → round f s (m * up e) (down e) ≡ fin s m e
round-own f s m e t =
    value-is f (round f s (m * up e) (down e)) s m e (round-fits f s (m * up e) (down e)) t
    (units-exact f s m m e 1 (m * up e) (down e) (held_any f s m e t) (same-le m) (down_pos e) (ap (λ (z : ℕ). m * z) (sym (mul-one (up e)))) (sym (mul-one (down e))))
  where
    same-le : (m : ℕ) → m ≤ m
    same-le m = omega arith

-- the remainder of a smaller number is that number
pub rem-small : (x y : Float) → T (fits binary64 x) → lt (mag x) (mag y) ≡ true → rem binary64 x y ≡ x
unfolding rem lt mag
rem-small nan y t h = refl
rem-small (inf s) nan t h = absurd (subst T (sym h) tt)
rem-small (inf s) (inf u) t h = absurd (subst T (sym h) tt)
rem-small (inf s) (fin u n d) t h = absurd (subst T (sym h) tt)
rem-small (fin s m e) nan t h = absurd (subst T (sym h) tt)
rem-small (fin s m e) (inf u) t h = refl
rem-small (fin s m e) (fin u n d) t h =
    let l : m * up e * down d < n * up d * down e = ltb-true (m * up e * down d) (n * up d * down e) h in
    rw (ne_eqb n 0 (above n (up d) (down e) (m * up e * down d) l), mod-eq_of_lt l)
    (round_same binary64 s (m * up e * down d) (down e * down d) (m * up e) (down e) (mul-pos (down_pos e) (down_pos d)) (down_pos e) (turn (m * up e) (down d) (down e)) ∙ round-own binary64 s m e t)
  where
    above : (n u v k : ℕ) → k < n * u * v → n ≡ 0 → ⊥
    above n u v k l z = omega (arith, rw z at l, zero-mul u, zero-mul v)

    turn : (a d e : ℕ) → a * d * e ≡ a * (e * d)
    turn a d e = mul_assoc a d e ∙ ap (λ (z : ℕ). a * z) (mul_comm d e)
