-- A charge is one of -2, -1, 0, 1, 2, whatever the angles: each wrapped turn is NaN or of size PI at most, PI, 2 PI, 3 PI and 3/2 are doubles, so the
-- winding is of size 3 PI at most and, in turns, 3/2 at most, whose rounding is of size 2 at most. No sharper bound holds: 2 does occur.
use mathlib.Core.Path.{◌≡◌, refl, sym, subst}
use mathlib.Core.Logic.{◌⊎◌, inl, inr}
use Prim.Native.Nat.{ℕ, zero, suc, ◌+◌, ◌-◌, ◌*◌, ◌/◌, ◌^◌, ◌≤◌, ◌<◌, min}
use native.Mathlib.Nat.{mul-pos, div-lt_iff_lt-mul}
use native.Mathlib.Omega.{arith}
use mathlib.Core.Bool.{Bool, true, false, cond, ◌&&◌}
use lib.Dec.{lit<, lit≤}
use lib.IntN.{ℤ, pos, negsuc, neg_ℤ, nat_abs}
use lib.Ieee.{Float, nan, inf, fin, binary64, up, down, round, neg, add, sub, div, lt, le, eq, of_bits, of_int, to_unsigned, to_signed, unlike}
use lib.Ieee.Fits.{down_pos}
use Rattle.float.specs.Double.{lit, mag, is_finite, round_size, round_away, TAU, ◌⊕◌, ◌⊘◌}
use Rattle.float.proofs.Within.{Within, Exact, round-within, add-within, tau-is}
use Rattle.complex.proofs.Range.{Wrapped, wrap-within}
use Rattle.singularities.specs.Charge.{along, winding, turns, charge}

exact-two-pi : Exact (884279719003555 + 884279719003555) (2 ^ 48)
unfolding round
exact-two-pi = (refl, refl)

exact-three-pi : Exact (884279719003555 + 884279719003555 + 884279719003555) (2 ^ 48)
unfolding round
exact-three-pi = (refl, refl)

exact-turn : Exact 3 2
unfolding round
exact-turn = (refl, refl)

-- ---- the winding: nan, or of size 3 pi at most
add-nan : (x y : Float) → x ≡ nan → add binary64 x y ≡ nan
unfolding add
add-nan x y e = rw e

nan-add : (x y : Float) → y ≡ nan → add binary64 x y ≡ nan
unfolding add
nan-add nan y e = refl
nan-add (inf s) y e = rw e
nan-add (fin s m e) y e' = rw e'

three : (x y z : Float) → Wrapped x → Wrapped y → Wrapped z → (x ⊕ y ⊕ z ≡ nan) ⊎ Within (x ⊕ y ⊕ z) (884279719003555 + 884279719003555 + 884279719003555) (2 ^ 48)
three x y z (inl e) h k = inl (add-nan (x ⊕ y) z (add-nan x y e))
three x y z (inr g) (inl e) k = inl (add-nan (x ⊕ y) z (nan-add x y e))
three x y z (inr g) (inr h) (inl e) = inl (nan-add (x ⊕ y) z e)
three x y z (inr g) (inr h) (inr k) =
    inr (add-within (x ⊕ y) z (884279719003555 + 884279719003555) 884279719003555 (2 ^ 48) (lit< tt) exact-three-pi (add-within x y 884279719003555 884279719003555 (2 ^ 48) (lit< tt) exact-two-pi g h) k)

-- a winding in turns is of size 3 / 2 at most
in_turns : (w : Float) → Within w (884279719003555 + 884279719003555 + 884279719003555) (2 ^ 48) → Within (div binary64 w (fin false 884279719003555 (negsuc 46))) 3 2
unfolding div
in_turns nan h = absurd h
in_turns (inf s) h = absurd h
in_turns (fin s m e) h = round-within (unlike s false) (m * up e * 2 ^ 47) (884279719003555 * 1 * down e) 3 2 (mul-pos (lit< tt) (down_pos e)) (lit< tt) exact-turn (far (m * up e) (down e) h)
  where
    far : (u v : ℕ) → u * 2 ^ 48 ≤ (884279719003555 + 884279719003555 + 884279719003555) * v → u * 2 ^ 47 * 2 ≤ 3 * (884279719003555 * 1 * v)
    far u v h = omega arith

-- ---- the charge
cut-one : (u v : ℕ) → 0 < v → u * 2 ≤ 3 * v → u / v ≤ 1
cut-one u v Vp h = small (u / v) ((div-lt_iff_lt-mul Vp).1 (omega arith))
  where
    small : (q : ℕ) → q < 2 → q ≤ 1
    small q h = omega arith

-- x itself, cut
signed-small : (s : Bool) (q : ℕ) → q ≤ 1 → nat_abs (cond s (neg_ℤ (pos (min q (2 ^ 63)))) (pos (min q (2 ^ 63 - 1)))) ≤ 2
signed-small true zero h = omega arith
signed-small true (suc zero) h = omega arith
signed-small true (suc (suc q)) h = absurd (omega arith)
signed-small false q h = omega arith

cast-small : (x : Float) → Within x 3 2 → nat_abs (to_signed 63 x) ≤ 2
unfolding to_signed
cast-small nan h = absurd h
cast-small (inf s) h = absurd h
cast-small (fin s m e) h = signed-small s (m * up e / down e) (cut-one (m * up e) (down e) (down_pos e) h)

-- the number rounded to, and one more
step_small : (b : Bool) (k : ℕ) → k ≤ 1 → nat_abs (to_signed 63 (cond b (add binary64 (of_int binary64 (pos k)) (lit 0x3ff0_0000_0000_0000)) (of_int binary64 (pos k)))) ≤ 2
unfolding to_signed add of_int of_bits
step_small true zero h = lit≤ tt
step_small false zero h = lit≤ tt
step_small true (suc zero) h = lit≤ tt
step_small false (suc zero) h = lit≤ tt
step_small b (suc (suc k)) h = absurd (omega arith)

step-small-neg : (b : Bool) (k : ℕ) → k ≤ 1 → nat_abs (to_signed 63 (neg (cond b (add binary64 (of_int binary64 (pos k)) (lit 0x3ff0_0000_0000_0000)) (of_int binary64 (pos k))))) ≤ 2
unfolding to_signed add of_int of_bits neg
step-small-neg true zero h = lit≤ tt
step-small-neg false zero h = lit≤ tt
step-small-neg true (suc zero) h = lit≤ tt
step-small-neg false (suc zero) h = lit≤ tt
step-small-neg b (suc (suc k)) h = absurd (omega arith)

whole-small : (x : Float) → Within x 3 2 → to_unsigned 64 (mag x) ≤ 1
unfolding to_unsigned mag
whole-small nan h = absurd h
whole-small (inf s) h = absurd h
whole-small (fin s m e) h = omega (arith, cut-one (m * up e) (down e) (down_pos e) h)

pub round-small : (x : Float) → Within x 3 2 → nat_abs (to_signed 63 (round_away x)) ≤ 2
unfolding round_away
round-small x h = go (eq x (lit 0)) (lt (mag x) (lit 0x4330_0000_0000_0000)) (lt x (lit 0))
  where
    one_up : nat_abs (to_signed 63 (round_size (mag x))) ≤ 2
    one_up = unfold round_size in step_small (le (lit 0x3fe0_0000_0000_0000) (sub binary64 (mag x) (of_int binary64 (pos (to_unsigned 64 (mag x)))))) (to_unsigned 64 (mag x)) (whole-small x h)

    one_down : nat_abs (to_signed 63 (neg (round_size (mag x)))) ≤ 2
    one_down = unfold round_size in step-small-neg (le (lit 0x3fe0_0000_0000_0000) (sub binary64 (mag x) (of_int binary64 (pos (to_unsigned 64 (mag x)))))) (to_unsigned 64 (mag x)) (whole-small x h)

    go : (a b c : Bool) → nat_abs (to_signed 63 (cond a x (cond b (cond c (neg (round_size (mag x))) (round_size (mag x))) x))) ≤ 2
    go true b c = cast-small x h
    go false true true = one_down
    go false true false = one_up
    go false false c = cast-small x h

turns-small : (w : Float) → (w ≡ nan) ⊎ Within w (884279719003555 + 884279719003555 + 884279719003555) (2 ^ 48) → nat_abs (turns w) ≤ 2
unfolding turns
turns-small w (inl e) = rw e nan-turns
  where
    nan-turns : nat_abs (to_signed 63 (round_away (nan ⊘ TAU))) ≤ 2
    nan-turns = unfold div round_away to_signed eq lt mag in lit≤ tt
turns-small w (inr h) = round-small (w ⊘ TAU) (subst (λ (y : Float). Within (w ⊘ y) 3 2) (sym tau-is) (in_turns w h))

pub charge-small : (a b c : Float) → nat_abs (charge a b c) ≤ 2
unfolding charge
charge-small a b c = go (is_finite a && is_finite b && is_finite c)
  where
    go : (t : Bool) → nat_abs (cond t (turns (winding a b c)) (pos 0)) ≤ 2
    go true = unfold winding in turns-small (along a b ⊕ along b c ⊕ along c a) (three (along a b) (along b c) (along c a) (wrap-within _) (wrap-within _) (wrap-within _))
    go false = lit≤ tt

-- what `triangle_charge` ensures, from its equation
pub charged : (a b c : Float) (r : ℤ) → r ≡ charge a b c → (r ≡ charge a b c) × (nat_abs r ≤ 2)
charged a b c r e = (e, subst (λ (z : ℤ). nat_abs z ≤ 2) (sym e) (charge-small a b c))
