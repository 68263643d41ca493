-- The pattern of a positive finite double lies below the infinity's, so that its root is the nearest double. Assumes nothing.
use Rattle.std.proofs.Common.{◌≡◌, ℕ, zero, suc, ◌+◌, ◌*◌, ◌/◌, ◌%◌, ◌<◌, Bool, true, false, cond, T, eqb, leb, sym, refl, ap, ◌∙◌, subst, arith, ltb-true, ne_eqb, leb-false, leb-true}
use lib.Ieee.{Float, nan, inf, fin, binary64, odd, lt, eq, of_fields, of_bits, to_bits, fits, prec, low, hid, ones, up, down}
use lib.Ieee.Bits.{of_bits-to_bits, to_bits-lt}
use Rattle.float.specs.Double.{lit, is_finite}
use Rattle.root.specs.Root.{root_of}
use Rattle.root.specs.Nearest.{Nearest}
use Rattle.root.proofs.Small.{not-zero}
use Rattle.root.proofs.Theorem.{root-nearest}

-- a pattern with the sign's bit is not above zero
odd-negative : (d q k l : ℕ) → lt (lit 0) (odd d true q k l) ≡ false
unfolding lt of_bits odd
odd-negative d zero k l = refl
odd-negative d (suc q) k l = refl

negative : (x t : ℕ) → lt (lit 0) (of_fields binary64 true x t) ≡ false
unfolding of_fields
negative zero t = odd-negative (prec binary64) t 0 (low binary64)
negative (suc x) t = go (eqb (suc x) (ones binary64)) (eqb t 0)
  where
    go : (a b : Bool) → lt (lit 0) (cond a (cond b (inf true) nan) (odd (prec binary64) true (hid binary64 + t) x (low binary64))) ≡ false
    go true true = unfold lt of_bits in refl
    go true false = unfold lt of_bits in refl
    go false b = odd-negative (prec binary64) (hid binary64 + t) x (low binary64)

-- nor is one from the infinity's on finite
full : (s : Bool) (t : ℕ) → is_finite (of_fields binary64 s 2047 t) ≡ false
unfolding of_fields
full s t = go (eqb t 0)
  where
    go : (b : Bool) → is_finite (cond b (inf s) nan) ≡ false
    go true = refl
    go false = refl

pattern-below : (b : ℕ) → b < 0x1_0000_0000_0000_0000 → lt (lit 0) (of_bits binary64 b) ≡ true → is_finite (of_bits binary64 b) ≡ true → b < 0x7ff0_0000_0000_0000
unfolding of_bits
pattern-below b l p f = go (leb 0x7ff0_0000_0000_0000 b) refl (leb 0x8000_0000_0000_0000 b) refl
  where
    go : (u : Bool) → leb 0x7ff0_0000_0000_0000 b ≡ u → (v : Bool) → leb 0x8000_0000_0000_0000 b ≡ v → b < 0x7ff0_0000_0000_0000
    go false e v g = leb-false 0x7ff0_0000_0000_0000 b e
    go true e true g = absurd (subst T (sym p ∙ ap (λ (s : Bool). lt (lit 0) (of_fields binary64 s (b % 0x8000_0000_0000_0000 / 0x10_0000_0000_0000) (b % 0x10_0000_0000_0000))) g ∙ negative (b % 0x8000_0000_0000_0000 / 0x10_0000_0000_0000) (b % 0x10_0000_0000_0000)) tt)
    go true e false g =
        let x : b % 0x8000_0000_0000_0000 / 0x10_0000_0000_0000 ≡ 2047 = omega (arith, leb-true 0x7ff0_0000_0000_0000 b e, leb-false 0x8000_0000_0000_0000 b g) in
        absurd (subst T (sym f ∙ ap (λ (n : ℕ). is_finite (of_fields binary64 (leb 0x8000_0000_0000_0000 b) n (b % 0x10_0000_0000_0000))) x ∙ full (leb 0x8000_0000_0000_0000 b) (b % 0x10_0000_0000_0000)) tt)

not_equal : (x : Float) → lt (lit 0) x ≡ true → eq x (lit 0) ≡ false
unfolding lt eq of_bits
not_equal nan h = refl
not_equal (inf s) h = refl
not_equal (fin true m e) h = absurd (subst T (sym h) tt)
not_equal (fin false m e) h = rw (ne_eqb (m * up e * 1) (0 * down e) (λ z. absurd (omega (arith, ltb-true (0 * down e) (m * up e * 1) h))))

nearest-of : (x : Float) → T (fits binary64 x) → lt (lit 0) x ≡ true → is_finite x ≡ true → Nearest x (root_of x)
nearest-of x t p f =
    let b = to_bits binary64 x in
    let q : of_bits binary64 b ≡ x = of_bits-to_bits binary64 x t in
    let h : b < 0x7ff0_0000_0000_0000 = pattern-below b (to_bits-lt binary64 x t) (ap (lt (lit 0)) q ∙ p) (ap is_finite q ∙ f) in
    subst (λ (y : Float). Nearest y (root_of y)) q (root-nearest b (not-zero x t (not_equal x p)) h)

-- what `sqrt` ensures, from its equation
pub rooted : (x r : Float) → T (fits binary64 x) → r ≡ root_of x → (r ≡ root_of x) × (lt (lit 0) x ≡ true → is_finite x ≡ true → Nearest x r)
rooted x r t e = (e, λ p f. subst (λ (y : Float). Nearest x y) (sym e) (nearest-of x t p f))
