-- `float::remainder` meets its contract: the laws are in proofs/Significands. Assumes nothing.
use Rattle.std.proofs.Common.{◌≡◌, ℕ, ◌-◌, ◌*◌, ◌%◌, ◌^◌, Bool, true, false, T, pos, sym, refl, ap, ◌∙◌, subst}
use lib.Ieee.{Float, binary64, of_bits, of_int, eq, neg, mul, fits}
use borrow.Author.Tests.{eqb-true, eqb-false}
use Rattle.float.specs.Double.{lit, is_finite, significand, places, power_of}
use Rattle.float.proofs.Significands.{Pair, significand-pos, rem-of-no_number, rem-by-nan, rem-by-zero, rem-by-infinity, left_size, rem-below, rem-plain, rem-negative}
use Rattle.float.proofs.remainder.Goals as goal
use Rattle.float.proofs.remainder.Goals.{then-not-is_finite-via-then-not-is_finite, then-not-is_finite-via-else-not-is_finite+then-y, then-not-is_finite-via-else-not-is_finite+else-y+then-y-2}

-- x is no number, or y is a NaN or a zero
pub returns-then-not-is_finite : goal.returns-then-not-is_finite
unfolding of_bits
returns-then-not-is_finite c =
    elim c.then-not-is_finite.branch [
      | then-not-is_finite-via-then-not-is_finite w ↦ rem-of-no_number c.args.x c.args.y (sym c.is_finite.ensures ∙ w.if-not-is_finite.true)
      | then-not-is_finite-via-else-not-is_finite+then-y w ↦ rem-by-nan c.args.x c.args.y w.if-y.true
      | then-not-is_finite-via-else-not-is_finite+else-y+then-y-2 w ↦ rem-by-zero c.args.x c.args.y w.if-y-2.true
    ]

-- y is an infinity
pub returns-then-not-is_finite-2 : goal.returns-then-not-is_finite-2
returns-then-not-is_finite-2 c = rem-by-infinity c.args.x c.args.y (sym c.is_finite.ensures ∙ c.if-not-is_finite.false) c.if-y.false (sym c.is_finite-2.ensures ∙ c.if-not-is_finite-2.true)

-- what is known of the two values once both are finite and the second is not 0
pair : (x y : Float) (a b : Bool) → fits binary64 x ≡ true → fits binary64 y ≡ true → a ≡ is_finite x → a ≡ true → b ≡ is_finite y → b ≡ true → eq y (lit 0) ≡ false → Pair x y
pair x y a b f g e h i j z = record {
  x-fits = subst T (sym f) tt;
  y-fits = subst T (sym g) tt;
  x-finite = subst T (sym (sym e ∙ h)) tt;
  y-finite = subst T (sym (sym i ∙ j)) tt;
  y-not-zero = z;
}

-- x has fewer places
pub returns-then-above-below : goal.returns-then-above-below
returns-then-above-below c =
    rem-below c.args.x c.args.y (pair c.args.x c.args.y c.is_finite.result c.is_finite-2.result c.well_formed.0.1 c.well_formed.1.0.1 c.is_finite.ensures c.if-not-is_finite.false c.is_finite-2.ensures c.if-not-is_finite-2.false c.if-y-2.false)
    (rw (c.places-above.ensures, c.places-below.ensures) at c.if-above-below.true)

-- y's significand is positive
pub remainder_of_doubled-rest-requires-clause-divisor : goal.remainder_of_doubled-rest-requires-clause-divisor
remainder_of_doubled-rest-requires-clause-divisor c =
    let h = pair c.args.x c.args.y c.is_finite.result c.is_finite-2.result c.well_formed.0.1 c.well_formed.1.0.1 c.is_finite.ensures c.if-not-is_finite.false c.is_finite-2.ensures c.if-not-is_finite-2.false c.if-y-2.false in
    rw c.significand-2.ensures (significand-pos c.args.y h.y-fits h.y-finite h.y-not-zero)

-- the product that the code computes
product : (x y : Float) (p q i j r : ℕ) (n w : Float) → i ≡ places x → j ≡ places y → p ≡ significand x → q ≡ significand y → r ≡ p * 2 ^ (i - j) % q → n ≡ of_int binary64 (pos r) → w ≡ power_of j → mul binary64 n w ≡ left_size x y
product x y p q i j r n w a b c d e f g = rw (f, g, e, a, b, c, d) refl

-- x has no sign, or it has one
pub returns-then-is_sign_positive : goal.returns-then-is_sign_positive
returns-then-is_sign_positive c =
    product c.args.x c.args.y _ _ _ _ _ _ _ c.places-above.ensures c.places-below.ensures c.significand.ensures c.significand-2.ensures c.remainder_of_doubled-rest.ensures c.from_whole.ensures c.power_of.ensures
    ∙ rem-plain c.args.x c.args.y (pair c.args.x c.args.y c.is_finite.result c.is_finite-2.result c.well_formed.0.1 c.well_formed.1.0.1 c.is_finite.ensures c.if-not-is_finite.false c.is_finite-2.ensures c.if-not-is_finite-2.false c.if-y-2.false)
    (rw (c.places-above.ensures, c.places-below.ensures) at c.if-above-below.false) (eqb-true _ _ (sym c.is_sign_positive.ensures ∙ c.if-is_sign_positive.true))

pub returns : goal.returns
returns c =
    ap neg (product c.args.x c.args.y _ _ _ _ _ _ _ c.places-above.ensures c.places-below.ensures c.significand.ensures c.significand-2.ensures c.remainder_of_doubled-rest.ensures c.from_whole.ensures c.power_of.ensures)
    ∙ rem-negative c.args.x c.args.y (pair c.args.x c.args.y c.is_finite.result c.is_finite-2.result c.well_formed.0.1 c.well_formed.1.0.1 c.is_finite.ensures c.if-not-is_finite.false c.is_finite-2.ensures c.if-not-is_finite-2.false c.if-y-2.false)
    (rw (c.places-above.ensures, c.places-below.ensures) at c.if-above-below.false) (eqb-false _ _ (sym c.is_sign_positive.ensures ∙ c.if-is_sign_positive.false))
