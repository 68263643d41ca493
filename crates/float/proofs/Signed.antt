-- Rust's `x as i64` beyond the range of an i64: the largest from 2 ^ 63 up, the smallest below -2 ^ 63, and 0 for a NaN.
use Rattle.std.proofs.Common.{◌≡◌, ℕ, ◌+◌, ◌*◌, ◌^◌, ◌≤◌, Bool, true, false, ◌||◌, T, pos, negsuc, neg_ℤ, sym, refl, ap, subst, le-div_iff_mul-le, arith, ltb-false}
use native.Mathlib.Nat.{min-eq_right}
use lib.Ieee.{Float, nan, inf, fin, up, down, neg, lt, le, ne, eq, of_bits, to_signed}
use lib.Ieee.Fits.{down_pos}
use lib.Ieee.Compare.{differs_from_itself}
use Rattle.float.specs.Double.{lit}

no : {A : Type 0} → false ≡ true → A
no h = absurd (subst T (sym h) tt)

no' : {A : Type 0} → true ≡ false → A
no' h = absurd (subst T h tt)

or-not : (a b : Bool) → a || b ≡ false → a ≡ false
or-not true b h = h
or-not false b h = refl

-- from 2 ^ 63 up
pub signed_high : (x : Float) → le (neg (lit 0x43e0_0000_0000_0000)) x ≡ true → lt x (lit 0x43e0_0000_0000_0000) ≡ false → pos 0x7fff_ffff_ffff_ffff ≡ to_signed 63 x
unfolding le lt neg of_bits to_signed
signed_high nan h k = no h
signed_high (inf true) h k = no h
signed_high (inf false) h k = refl
signed_high (fin true m e) h k = absurd (omega (arith, ltb-false 0 (m * up e * 1 + 1 * 2 ^ 63 * down e) k, down_pos e))
signed_high (fin false m e) h k =
    let l : 0x7fff_ffff_ffff_ffff * down e ≤ m * up e = omega (arith, ltb-false (m * up e * 1) (1 * 2 ^ 63 * down e) k) in
    ap pos (sym (min-eq_right ((le-div_iff_mul-le (down_pos e)).1 l)))

-- below -2 ^ 63
pub signed_low : (x : Float) → le (neg (lit 0x43e0_0000_0000_0000)) x ≡ false → ne x x ≡ false → negsuc 0x7fff_ffff_ffff_ffff ≡ to_signed 63 x
unfolding le neg of_bits to_signed ne eq
signed_low nan h k = no' k
signed_low (inf true) h k = refl
signed_low (inf false) h k = no' h
signed_low (fin true m e) h k =
    let l : 2 ^ 63 * down e ≤ m * up e = omega (arith, ltb-false (m * up e * 1) (1 * 2 ^ 63 * down e) (or-not _ _ h)) in
    ap (λ (n : ℕ). neg_ℤ (pos n)) (sym (min-eq_right ((le-div_iff_mul-le (down_pos e)).1 l)))
signed_low (fin false m e) h k = absurd (omega (arith, ltb-false 0 (1 * 2 ^ 63 * down e + m * up e * 1) (or-not _ _ h), down_pos e))

pub signed-nan : (x : Float) → ne x x ≡ true → pos 0 ≡ to_signed 63 x
unfolding to_signed
signed-nan x h = subst (λ (y : Float). pos 0 ≡ to_signed 63 y) (sym (differs_from_itself x (subst T (sym h) tt))) refl
