-- fdlibm 5.3's s_atan.c and e_atan2.c, step by step; docs/FDLIBM.md has the C's steps. Definitions only.
-- The C's test `huge + x > one` under `ix < 0x3e200000` always holds: it only raises the inexact flag.
use Rattle.std.specs.Prelude.{ℕ, suc, ◌+◌, ◌*◌, ◌/◌, Bool, false, not, cond, ◌&&◌, ◌||◌, ltb, leb, eqb, ℤ, pos, negsuc, Float}
use Rattle.std.specs.Float.Ieee.{neg, to_bits, minus}
use Rattle.std.specs.Float.{binary64}
use Rattle.float.specs.Double.{lit, mag, size, high, sign, turn_sign, ◌⊕◌, ◌⊖◌, ◌⊗◌, ◌⊘◌}
use Rattle.arctangent.specs.Consts.{half, one, zero, one_point_five, two, three, tiny, atanhi0, atanhi1, atanhi2, atanhi3, atanlo0, atanlo1, atanlo2, atanlo3, a_t0, a_t1, a_t2, a_t3, a_t4, a_t5, a_t6, a_t7, a_t8, a_t9, a_t10, pi-o-4, pi-o-2, pi, pi-lo}

-- ---- tests of both words, which `size` has as one number
-- (ix | ((lx | -lx) >> 31)) > 0x7ff00000: above the infinity's pattern
abbrev pub is_nan : Float → Bool
is_nan x = ltb 0x7ff0_0000_0000_0000 (size x)

-- (ix | lx) == 0
abbrev pub is_zero : Float → Bool
is_zero x = eqb (size x) 0

-- ((hx - 0x3ff00000) | lx) == 0
abbrev pub is_one : Float → Bool
is_one x = eqb (to_bits binary64 x) 0x3ff0_0000_0000_0000

-- ---- s_atan.c
-- x * (s1 + s2)
unfoldable pub atan_tail : Float → Float
atan_tail x =
    let z = x ⊗ x in
    let w = z ⊗ z in
    let s1 = z ⊗ (a_t0 ⊕ w ⊗ (a_t2 ⊕ w ⊗ (a_t4 ⊕ w ⊗ (a_t6 ⊕ w ⊗ (a_t8 ⊕ w ⊗ a_t10))))) in
    let s2 = w ⊗ (a_t1 ⊕ w ⊗ (a_t3 ⊕ w ⊗ (a_t5 ⊕ w ⊗ (a_t7 ⊕ w ⊗ a_t9)))) in
    x ⊗ (s1 ⊕ s2)

-- atanhi[id] - ((x * (s1 + s2) - atanlo[id]) - x)
unfoldable pub atan_near : Float → Float → Float → Float
atan_near hi lo x = hi ⊖ (atan_tail x ⊖ lo ⊖ x)

-- |x| from 7/16 up, whose upper word is ix: id is 0, 1, 2 or 3
unfoldable pub atan_size : Float → ℕ → Float
atan_size x ix =
    cond (ltb ix 0x3fe6_0000) (atan_near atanhi0 atanlo0 ((two ⊗ x ⊖ one) ⊘ (two ⊕ x)))
    (cond (ltb ix 0x3ff3_0000) (atan_near atanhi1 atanlo1 ((x ⊖ one) ⊘ (x ⊕ one)))
    (cond (ltb ix 0x4003_8000) (atan_near atanhi2 atanlo2 ((x ⊖ one_point_five) ⊘ (one ⊕ one_point_five ⊗ x)))
    (atan_near atanhi3 atanlo3 (neg one ⊘ x))))

-- atan(x)
unfoldable pub atan_of : Float → Float
atan_of x =
    let ix = high x in
    cond (leb 0x4410_0000 ix)
    (cond (is_nan x) (x ⊕ x)
    (cond (eqb (sign x) 0) (atanhi3 ⊕ atanlo3) (neg atanhi3 ⊖ atanlo3)))
    (cond (ltb ix 0x3fdc_0000) (cond (ltb ix 0x3e20_0000) x (x ⊖ atan_tail x))
    (cond (eqb (sign x) 0) (atan_size (mag x) ix) (neg (atan_size (mag x) ix))))

-- ---- e_atan2.c
-- m = ((hy >> 31) & 1) | ((hx >> 30) & 2)
abbrev pub quadrant : Float → Float → ℕ
quadrant y x = sign y + 2 * sign x

-- switch (m) { case 0: .. case 1: .. case 2: .. default: .. }
abbrev pub switch : ℕ → Float → Float → Float → Float → Float
switch m a b c d = cond (eqb m 0) a (cond (eqb m 1) b (cond (eqb m 2) c d))

-- k = (iy - ix) >> 20: the shift of a signed int rounds down
abbrev pub shifted : ℤ → ℤ
shifted (pos n) = pos (n / 0x10_0000)
shifted (negsuc n) = negsuc (n / 0x10_0000)

-- k > 60
abbrev pub above60 : ℤ → Bool
above60 (pos k) = ltb 60 k
above60 (negsuc k) = false

-- k < -60
abbrev pub below60 : ℤ → Bool
below60 (pos k) = false
below60 (negsuc k) = ltb 60 (suc k)

-- z, the arc of |y / x|, also where the quotient is too large or, for a negative x, too small to take
unfoldable pub atan_ratio : Float → Float → Float
atan_ratio y x =
    let k = shifted (minus (high y) (high x)) in
    cond (above60 k) (pi-o-2 ⊕ half ⊗ pi-lo)
    (cond (not (eqb (sign x) 0) && below60 k) zero (atan_of (mag (y ⊘ x))))

-- the last switch: z, z with __HI(z) ^= 0x80000000, pi - (z - pi_lo), (z - pi_lo) - pi
unfoldable pub in_quadrant : ℕ → Float → Float
in_quadrant m z = switch m z (lit (turn_sign (to_bits binary64 z))) (pi ⊖ (z ⊖ pi-lo)) (z ⊖ pi-lo ⊖ pi)

-- x is an infinity: y is one too, or not
unfoldable pub at_infinity : ℕ → ℕ → Float
at_infinity m iy =
    cond (eqb iy 0x7ff0_0000) (switch m (pi-o-4 ⊕ tiny) (neg pi-o-4 ⊖ tiny) (three ⊗ pi-o-4 ⊕ tiny) (neg three ⊗ pi-o-4 ⊖ tiny))
    (switch m zero (neg one ⊗ zero) (pi ⊕ tiny) (neg pi ⊖ tiny))

-- hy < 0 ? -pi_o_2 - tiny : pi_o_2 + tiny
abbrev pub upright : Float → Float
upright y = cond (eqb (sign y) 0) (pi-o-2 ⊕ tiny) (neg pi-o-2 ⊖ tiny)

-- atan2(y, x)
unfoldable pub atan2_of : Float → Float → Float
atan2_of y x =
    let m = quadrant y x in
    cond (is_nan x || is_nan y) (x ⊕ y)
    (cond (is_one x) (atan_of y)
    (cond (is_zero y) (switch m y y (pi ⊕ tiny) (neg pi ⊖ tiny))
    (cond (is_zero x) (upright y)
    (cond (eqb (high x) 0x7ff0_0000) (at_infinity m (high y))
    (cond (eqb (high y) 0x7ff0_0000) (upright y)
    (in_quadrant m (atan_ratio y x)))))))
