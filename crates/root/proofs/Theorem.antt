-- The claim on the root: for every positive finite double x, subnormals included, `root_of x` is the nearest double (specs/Nearest.antt).
-- Why: the root is r * 2 ^ k units with 2 ^ 52 ≤ r, and a double is either a multiple of 2 ^ k units or below 2 ^ 52 * 2 ^ k, since it has at most 53 digits. So the nearest other doubles are at least 2 ^ k away,
-- but below r = 2 ^ 52, where the root is known not to have been rounded up. Assumes nothing.
use Rattle.std.proofs.Common.{◌≡◌, ℕ, zero, suc, ◌+◌, ◌-◌, ◌*◌, ◌%◌, ◌^◌, ◌<◌, ◌≤◌, Bool, true, false, ◌&&◌, T, eqb, ltb, leb, ℤ, pos, negsuc, sym, refl, ap, ◌∙◌, subst, le_trans, lt_of_lt_of_le, lt_of_le_of_lt, mul-le-mul_right, mul_assoc, add-mul, mul-le-mul, lt_of_mul-lt-mul_right, mul-lt-mul_of_pos_right, pow-suc, zero-mul, mul-one, mul_left_comm, arith, ltb→lt, leb→le, pow_pos, pow_mono, pow-add, eqb-true, leb-false, leb-true}
use native.Mathlib.Nat.{eq_of_mul-eq-mul_right}
use lib.Pow.{pow-lt}
use borrow.Author.Tests.{eqb-false}
use lib.Ieee.{Float, nan, inf, fin, binary64, up, down, of_bits, fits}
use Rattle.root.specs.Root.{root_of}
use Rattle.root.specs.Nearest.{Double, Nearest}
use Rattle.root.proofs.Laws.{next-square}
use Rattle.root.proofs.Small.{root-bracket}

-- ---- a double has at most 53 digits
record Digits (Z : ℕ) : Type 0 where
  M : ℕ
  j : ℕ
  is : Z ≡ M * 2 ^ j
  short : M < 2 ^ 53

pick : (a b c d : Bool) → T (a && b && c && d) → T b × T c
pick true true true d t = (tt, tt)
pick true true false d t = absurd t
pick true false c d t = absurd t
pick false b c d t = absurd t

held : (s : Bool) (m : ℕ) (e : ℤ) → T (fits binary64 (fin s (suc m) e)) → (suc m < 2 ^ 53) × (down e ≤ 2 ^ 1074)
unfolding fits
held s m e t =
    let p = pick (eqb (suc m % 2) 1) (ltb (suc m) (2 ^ 53)) (leb (down e) (2 ^ 1074)) (ltb (suc m * up e) (2 ^ 1024 * down e)) t in
    (ltb→lt (suc m) (2 ^ 53) p.0, leb→le (down e) (2 ^ 1074) p.1)

at-most : (a : ℕ) → 2 ^ suc a ≤ 2 ^ 1074 → suc a ≤ 1074
at-most a h = go (leb (suc a) 1074) refl
  where
    go : (t : Bool) → leb (suc a) 1074 ≡ t → suc a ≤ 1074
    go true e = leb-true _ _ e
    go false e = absurd (apart (2 ^ 1074) (2 ^ suc a) (pow-lt (leb-false _ _ e)) h)
      where
        apart : (p q : ℕ) → p < q → q ≤ p → ⊥
        apart p q l g = omega arith

digits : (z : Float) (Z : ℕ) → Double z Z → Digits Z
digits nan Z d = absurd d.units
digits (inf s) Z d = absurd d.units
digits (fin s zero e) Z d = record { M = 0; j = 0; is = none Z e d.units.1; short = omega arith }
  where
    none : (Z : ℕ) (e : ℤ) → 0 * up e * 2 ^ 1074 ≡ Z * down e → Z ≡ 0 * 2 ^ 0
    none Z e h = eq_of_mul-eq-mul_right (down e) (lib.Ieee.Fits.down_pos e) Z 0 (sym h ∙ simp zero-mul)
digits (fin s (suc m) (pos a)) Z d = record {
  M = suc m;
  j = a + 1074;
  is = sym (mul-one Z) ∙ sym d.units.1 ∙ mul_assoc (suc m) (2 ^ a) (2 ^ 1074) ∙ ap (λ (n : ℕ). suc m * n) (sym (pow-add 2 a 1074));
  short = (held s m (pos a) d.held).0;
}
digits (fin s (suc m) (negsuc a)) Z d = record {
  M = suc m;
  j = 1074 - suc a;
  is = cancel (suc m) Z (suc a) (at-most a (held s m (negsuc a) d.held).1) d.units.1;
  short = (held s m (negsuc a) d.held).0;
}
  where
    cancel : (m Z c : ℕ) → c ≤ 1074 → m * 1 * 2 ^ 1074 ≡ Z * 2 ^ c → Z ≡ m * 2 ^ (1074 - c)
    cancel m Z c h e =
        let k : 1074 ≡ 1074 - c + c = omega arith in
        eq_of_mul-eq-mul_right (2 ^ c) (pow_pos c) Z (m * 2 ^ (1074 - c))
        (sym e ∙ ap (λ (n : ℕ). n * 2 ^ 1074) (mul-one m) ∙ ap (λ (n : ℕ). m * 2 ^ n) k ∙ ap (λ (n : ℕ). m * n) (pow-add 2 (1074 - c) c) ∙ sym (mul_assoc m (2 ^ (1074 - c)) (2 ^ c)))

-- ---- so it lies on the grid of 2 ^ k, or below 2 ^ 52 of its steps
data Grid (Z u : ℕ) : Type 0 where
  on : (W : ℕ) → Z ≡ W * u → Grid Z u
  low : Z < 2 ^ 52 * u → Grid Z u

grid : (Z k : ℕ) → Digits Z → Grid Z (2 ^ k)
grid Z k d = go (leb k d.j) refl
  where
    split : (j k : ℕ) → k ≤ j → 2 ^ j ≡ 2 ^ (j - k) * 2 ^ k
    split j k h = let e : j ≡ j - k + k = omega arith in ap (λ (n : ℕ). 2 ^ n) e ∙ pow-add 2 (j - k) k

    half : (M p u : ℕ) → M < 2 ^ 53 → 2 * p ≤ u → 0 < p → M * p < 2 ^ 52 * u
    half M p u h l P = omega (arith, mul-lt-mul_of_pos_right h P, l)

    go : (t : Bool) → leb k d.j ≡ t → Grid Z (2 ^ k)
    go true e = on (d.M * 2 ^ (d.j - k)) (d.is ∙ ap (λ (n : ℕ). d.M * n) (split d.j k (leb-true _ _ e)) ∙ sym (mul_assoc d.M (2 ^ (d.j - k)) (2 ^ k)))
    go false e =
        let l : suc d.j ≤ k = leb-false _ _ e in
        low (subst (λ (n : ℕ). n < 2 ^ 52 * 2 ^ k) (sym d.is) (half d.M (2 ^ d.j) (2 ^ k) d.short (le_trans (two d.j) (pow_mono l)) (pow_pos d.j)))
      where
        two : (j : ℕ) → 2 * 2 ^ j ≤ 2 ^ suc j
        two j = omega (arith, pow-suc 2 j)

-- ---- squares
square : (c u : ℕ) → c * u * (c * u) ≡ c * c * (u * u)
square c u = simp (mul_assoc, mul_left_comm)

less-square : (a b : ℕ) → a < b → a * a < b * b
less-square a b h = let l : a + 1 ≤ b = omega arith in omega (arith, mul-le-mul l l, next-square a)

module _ (r u n : ℕ) (U : 0 < u) (R : 2 ^ 52 ≤ r) (reach : 2 ^ 53 * 2 ^ 53 * (u * u) ≤ n) (under : (2 * r - 1) * (2 * r - 1) * (u * u) < n) (over : n < (2 * r + 1) * (2 * r + 1) * (u * u)) where
  -- a double that is at least a step below
  step-below : (Z : ℕ) → Z ≤ (r - 1) * u → (r * u + Z) * (r * u + Z) < n
  step-below Z h =
      let e : r + (r - 1) ≡ 2 * r - 1 = omega arith in
      let s : r * u + (r - 1) * u ≡ (2 * r - 1) * u = sym (add-mul r (r - 1) u) ∙ ap (λ (m : ℕ). m * u) e in
      let l : r * u + Z ≤ (2 * r - 1) * u = omega (arith, s) in
      lt_of_le_of_lt (mul-le-mul l l) (rw (square (2 * r - 1) u) under)

  fewer : (W : ℕ) → W * u < r * u → W ≤ r - 1
  fewer W h = let l : W < r = lt_of_mul-lt-mul_right u h in omega arith

  more : (W : ℕ) → r * u < W * u → r + 1 ≤ W
  more W h = let l : r < W = lt_of_mul-lt-mul_right u h in omega arith

  below_by : (Z : ℕ) → Grid Z u → Z < r * u → (r * u + Z) * (r * u + Z) < n
  below_by Z (on W e) h = step-below Z (subst (λ (m : ℕ). m ≤ (r - 1) * u) (sym e) (mul-le-mul_right u (fewer W (subst (λ (m : ℕ). m < r * u) e h))))
  below_by Z (low l) h = go (eqb r (2 ^ 52)) refl
    where
      go : (t : Bool) → eqb r (2 ^ 52) ≡ t → (r * u + Z) * (r * u + Z) < n
      go true e =
          let q : r * u ≡ 2 ^ 52 * u = ap (λ (m : ℕ). m * u) (eqb-true _ _ e) in
          let s : r * u + Z < 2 ^ 53 * u = omega arith in
          lt_of_lt_of_le (less-square _ _ s) (rw (square (2 ^ 53) u) reach)
      go false e =
          let g : 2 ^ 52 ≤ r - 1 = omega (arith, eqb-false r (2 ^ 52) e) in
          step-below Z (omega (arith, mul-le-mul_right u g))

  above-by : (Z : ℕ) → Grid Z u → r * u < Z → n < (r * u + Z) * (r * u + Z)
  above-by Z (on W e) h =
      let l : (r + 1) * u ≤ W * u = mul-le-mul_right u (more W (subst (λ (m : ℕ). r * u < m) e h)) in
      let q : r + (r + 1) ≡ 2 * r + 1 = omega arith in
      let s : r * u + (r + 1) * u ≡ (2 * r + 1) * u = sym (add-mul r (r + 1) u) ∙ ap (λ (m : ℕ). m * u) q in
      let g : (2 * r + 1) * u ≤ r * u + Z = omega arith in
      lt_of_lt_of_le over' (mul-le-mul g g)
    where
      over' : n < (2 * r + 1) * u * ((2 * r + 1) * u)
      over' = rw (square (2 * r + 1) u) over
  above-by Z (low l) h = absurd (omega (arith, mul-le-mul_right u R))

-- ---- the claim
pub root-nearest : (b : ℕ) → 0 < b → b < 0x7ff0_0000_0000_0000 → Nearest (of_bits binary64 b) (root_of (of_bits binary64 b))
root-nearest b B l =
    let N = root-bracket b B l in
    record {
      X = N.X;
      Y = N.r * 2 ^ N.k;
      is_x = N.is_x;
      is_y = N.is_y;
      below = λ z Z d h. below_by N.r (2 ^ N.k) (N.X * 2 ^ 1076) (pow_pos N.k) N.digits.0 N.reach N.under N.over Z (grid Z N.k (digits z Z d)) h;
      above = λ z Z d h. above-by N.r (2 ^ N.k) (N.X * 2 ^ 1076) (pow_pos N.k) N.digits.0 N.reach N.under N.over Z (grid Z N.k (digits z Z d)) h;
    }
