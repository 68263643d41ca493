-- Recorded answers: a text of words, each 16 lowercase hex digits and one byte that parts it from the next (a blank or a line feed), so that word k starts at byte 17 * k. Definitions only.
use Rattle.std.specs.Prelude.{ℕ, zero, suc, ◌+◌, ◌-◌, ◌*◌, ◌%◌, Bool, cond, List, ◌==◌, nat_lt, slice_index}

-- the value of a hex digit; any other byte counts as 0
unfoldable pub digit_of : ℕ → ℕ
digit_of b = cond (nat_lt b 48) 0 (cond (nat_lt b 58) (b - 48) (cond (nat_lt b 97) 0 (cond (nat_lt b 103) (b - 87) 0)))

-- the number that the first n bytes from `at` on spell; what lies past the end counts as 0
unfoldable pub spelled : List ℕ → ℕ → ℕ → ℕ
spelled text at zero = 0
spelled text at (suc n) = spelled text at n * 16 + digit_of (slice_index text (at + n))

unfoldable pub word_at : List ℕ → ℕ → ℕ
word_at text k = spelled text (17 * k) 16

-- whether a pattern is one of a NaN's
abbrev pub nan_pattern : ℕ → Bool
nan_pattern b = nat_lt 0x7ff0_0000_0000_0000 (b % 0x8000_0000_0000_0000)

-- two patterns that stand for the same double, where all NaNs are one
unfoldable pub same_double : ℕ → ℕ → Bool
same_double a b = cond (nan_pattern a) (nan_pattern b) (a == b)
