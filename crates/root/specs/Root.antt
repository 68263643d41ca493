-- The square root of a double, rounded to the nearest one, by whole numbers and their squares. `specs/Nearest.antt` says what nearest means, and `proofs/Theorem.antt` proves it of every positive finite double. Definitions only.
use Rattle.std.specs.Prelude.{ℕ, zero, suc, ◌+◌, ◌-◌, ◌*◌, ◌/◌, ◌%◌, ◌^◌, ◌<◌, ◌≤◌, cond, ◌==◌, nat_le, nat_lt, to_bits, Float, Option, Some, None}
use Rattle.std.specs.Float.{nan, binary64}
use Rattle.std.specs.Float.Ieee.{eq, lt, ne, size}
use Rattle.float.specs.Double.{lit}

-- q is the whole part of the square root of n
pub record IsRoot (q n : ℕ) : Type 0 where
  pub under : q * q ≤ n
  pub over : n < (q + 1) * (q + 1)

-- one binary digit more: 2q + 1 where its square is not above n, and 2q otherwise
abbrev pub grown : ℕ → ℕ → ℕ
grown q n = cond (nat_le ((q * 2 + 1) * (q * 2 + 1)) n) (q * 2 + 1) (q * 2)

-- the whole part of the square root of an n below 4 ^ k, digit by digit: `Laws.antt`'s `root_in-is` shows that it is
unfoldable pub root_in : ℕ → ℕ → ℕ
root_in zero n = 0
root_in (suc k) n = grown (root_in k (n / 4)) n

-- q is nearest to the root of m * 4 ^ 26: 2q - 1 and 2q + 1 are on either side of the root of m * 4 ^ 27
pub record IsNearest (m q : ℕ) : Type 0 where
  pub under : (2 * q - 1) * (2 * q - 1) ≤ m * 2 ^ 54
  pub over : m * 2 ^ 54 < (2 * q + 1) * (2 * q + 1)

-- a q that is found is that number; where none is, nothing is said
abbrev pub Settled : ℕ → Option ℕ → Type 0
Settled m (Some q) = (q < 2 ^ 54) × IsNearest m q
Settled m None = Unit {0}

-- A finite double above 0 is c * 2 ^ (x - 2150), for a c of 53 digits. Of a pattern b from 2 ^ 52 up, c is its last 52 digits with a 1 before them, and x is the exponent's field + 1075.
-- A subnormal b is b * 2 ^ -1074, and c is b with zeros after it: `size b` is the number of b's digits.
abbrev pub significand : ℕ → ℕ
significand b = cond (nat_lt b (2 ^ 52)) (b * 2 ^ (53 - size b)) (b % 2 ^ 52 + 2 ^ 52)

abbrev pub exponent_of : ℕ → ℕ
exponent_of b = cond (nat_lt b (2 ^ 52)) (size b + 1023) (b / 2 ^ 52 + 1075)

-- c * 2 ^ (x - 2150) is m * 4 ^ (h - 1075), for h = x / 2 and m = c or 2c as x is even or odd.
-- The root has 53 digits, R * 2 ^ (h - 1101), for the whole number R that is nearest to the root of m * 4 ^ 26.
-- R is (q + 1) / 2 for the whole part q of twice that root, which is the root of m * 4 ^ 27. No tie can occur: the square of an odd q ends in a 1, and m * 4 ^ 27 in zeros.
-- m is `aligned` without its last ten digits, so m * 4 ^ 27 is `aligned` * 2 ^ 44.
abbrev pub aligned : ℕ → ℕ → ℕ
aligned c x = cond (x % 2 == 0) (c * 1024) (c * 2048)

-- the root's pattern
unfoldable pub root_at : ℕ → ℕ → ℕ
root_at c x = (x / 2 - 27) * 2 ^ 52 + (root_in 54 (aligned c x * 2 ^ 44) + 1) / 2

unfoldable pub root_bits : ℕ → ℕ
unfolding root_at size
root_bits b = root_at (significand b) (exponent_of b)

-- A zero is its own root, with its sign, and so is the infinity. A negative number has none.
unfoldable pub root_of : Float → Float
root_of x =
    cond (ne x x) x
    (cond (eq x (lit 0)) x
    (cond (lt x (lit 0)) nan
    (cond (nat_le 0x7ff0_0000_0000_0000 (to_bits binary64 x)) x
    (lit (root_bits (to_bits binary64 x))))))
