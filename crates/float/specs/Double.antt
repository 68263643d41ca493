-- Doubles: the operations that every layer above writes with, and what the functions of this crate compute, over the binary64 values of `lib.Ieee`. Definitions only.
-- There is one `nan`, so all NaNs are equal; every definition is total.
use Rattle.std.specs.Prelude.{ℕ, ◌+◌, ◌-◌, ◌*◌, ◌/◌, ◌%◌, ◌^◌, Bool, true, false, cond, not, ◌||◌, pos, from_bits, nat_eq, nat_lt, to_bits, Float}
use Rattle.std.specs.Float.{nan, inf, fin, binary64}
use Rattle.std.specs.Float.Ieee.{add, sub, mul, div, rem, lt, le, eq, ne, neg, of_int, to_unsigned}

-- a literal, by its bit pattern
abbrev pub lit : ℕ → Float
lit b = from_bits binary64 b

-- a whole number as a double, exact up to 2 ^ 53
abbrev pub whole : ℕ → Float
whole n = of_int binary64 (pos n)

-- 0.5
abbrev pub HALF : Float
HALF = lit 0x3fe0_0000_0000_0000

-- FRAC_PI_4, FRAC_PI_2, PI and TAU of Rust's std::f64::consts
abbrev pub FRAC-PI-4 : Float
FRAC-PI-4 = lit 0x3fe9_21fb_5444_2d18

abbrev pub FRAC-PI-2 : Float
FRAC-PI-2 = lit 0x3ff9_21fb_5444_2d18

abbrev pub PI : Float
PI = lit 0x4009_21fb_5444_2d18

abbrev pub TAU : Float
TAU = lit 0x4019_21fb_5444_2d18

-- the four operations, each rounded once to the nearest double
infixl 6 ◌⊕◌ ◌⊖◌
infixl 7 ◌⊗◌ ◌⊘◌
abbrev pub ◌⊕◌ : Float → Float → Float
x ⊕ y = add binary64 x y

abbrev pub ◌⊖◌ : Float → Float → Float
x ⊖ y = sub binary64 x y

abbrev pub ◌⊗◌ : Float → Float → Float
x ⊗ y = mul binary64 x y

abbrev pub ◌⊘◌ : Float → Float → Float
x ⊘ y = div binary64 x y

-- ---- Rust's functions on f64
-- f64::is_finite
abbrev pub is_finite : Float → Bool
is_finite nan = false
is_finite (inf s) = false
is_finite (fin s m e) = true

-- "not finite, or not positive"
unfoldable pub not_positive : Float → Bool
not_positive x = not (is_finite x) || le x (lit 0)

-- f64::abs
unfoldable pub mag : Float → Float
mag nan = nan
mag (inf s) = inf false
mag (fin s m e) = fin false m e

-- f64::max and f64::min: a NaN is passed over; of two equal values the first
abbrev pub max_of : Float → Float → Float
max_of a b = cond (lt a b) b (cond (ne a a) b a)

abbrev pub min_of : Float → Float → Float
min_of a b = cond (lt b a) b (cond (ne a a) b a)

-- f64::recip
abbrev pub recip_of : Float → Float
recip_of x = div binary64 (lit 0x3ff0_0000_0000_0000) x

-- f64::rem_euclid
abbrev pub rem_euclid : Float → Float → Float
rem_euclid x y = cond (lt (rem binary64 x y) (lit 0)) (add binary64 (rem binary64 x y) (mag y)) (rem binary64 x y)

-- ---- parts of the bit pattern, which are numbers
-- the pattern with the sign cleared: fdlibm's ix and lx as one number of 63 bits
abbrev pub size : Float → ℕ
size x = to_bits binary64 x % 0x8000_0000_0000_0000

-- its upper word: fdlibm's ix, `__HI(x) & 0x7fffffff`
abbrev pub high : Float → ℕ
high x = to_bits binary64 x % 0x8000_0000_0000_0000 / 0x1_0000_0000

-- the exponent's field: fdlibm's `(__HI(x) >> 20) & 0x7ff`
abbrev pub field : Float → ℕ
field x = to_bits binary64 x % 0x8000_0000_0000_0000 / 0x10_0000_0000_0000

-- A finite value is its significand, a whole number below 2 ^ 53 with the leading digit where the exponent's field is not 0, doubled `places` times,
-- in units of the smallest double, 2 ^ -1074
abbrev pub significand : Float → ℕ
significand x = to_bits binary64 x % 0x10_0000_0000_0000 + cond (nat_eq (field x) 0) 0 0x10_0000_0000_0000

abbrev pub places : Float → ℕ
places x = field x - 1

-- that unit doubled j times, for a j up to 2046: below 2 ^ -1022 by the digits, and from there on by the exponent's field
abbrev pub power_of : ℕ → Float
power_of j = cond (nat_lt j 52) (lit (2 ^ j)) (lit ((j - 51) * 0x10_0000_0000_0000))

-- the sign's bit: 1 where fdlibm's `__HI(x) < 0`
abbrev pub sign : Float → ℕ
sign x = to_bits binary64 x / 0x8000_0000_0000_0000

-- the pattern with the sign's bit turned: fdlibm's `__HI(z) ^= 0x80000000`
abbrev pub turn_sign : ℕ → ℕ
turn_sign b = cond (nat_lt b 0x8000_0000_0000_0000) (b + 0x8000_0000_0000_0000) (b - 0x8000_0000_0000_0000)

-- ---- rounding to whole numbers
-- a number's whole part, or one more where what is left is a half or more, for an a that is not negative and below 2 ^ 52
unfoldable pub round_size : Float → Float
round_size a =
    let f = of_int binary64 (pos (to_unsigned 64 a)) in
    cond (le HALF (sub binary64 a f)) (add binary64 f (lit 0x3ff0_0000_0000_0000)) f

-- f64::round: to the nearest whole number, a half away from zero. From 2 ^ 52 on every value is whole. The sign stays, also of a zero
unfoldable pub round_away : Float → Float
round_away x =
    cond (eq x (lit 0)) x
    (cond (lt (mag x) (lit 0x4330_0000_0000_0000)) (cond (lt x (lit 0)) (neg (round_size (mag x))) (round_size (mag x))) x)
