-- What a row of a recorded solve holds, as far as its kind is told by it: data/README.md has its words. Definitions only.
use Rattle.std.specs.Prelude.{ℕ, ◌+◌, ◌/◌, ◌%◌, ◌^◌, Bool, true, cond, List, eqb}
use Rattle.replay.specs.Words.{word_at, nan_pattern}
use Rattle.replay.specs.Rows.{at_most, any_of}

-- a quarter of word k; the uppermost is 0
abbrev pub quarter_at : List ℕ → ℕ → ℕ → ℕ
quarter_at row k i = cond (eqb i 0) (word_at row k / 2 ^ 48)
    (cond (eqb i 1) (word_at row k / 2 ^ 32 % 2 ^ 16)
    (cond (eqb i 2) (word_at row k / 2 ^ 16 % 2 ^ 16) (word_at row k % 2 ^ 16)))

-- the count that it gives, at most as many as there is room for
unfoldable pub count_at : List ℕ → ℕ → ℕ → ℕ → ℕ
count_at row k i most = at_most most (quarter_at row k i)

-- the numbers of points, sizes and guidance angles
unfoldable pub given_doubles : List ℕ → ℕ
given_doubles row = count_at row 1 0 40 + count_at row 1 2 16 + count_at row 1 3 16

-- a weight, an option, a coordinate, a size or a guidance angle is NaN
unfoldable pub has_nan : List ℕ → Bool
has_nan row = cond (any_of (λ i. nan_pattern (word_at row (4 + i))) 6) true (any_of (λ i. nan_pattern (word_at row (13 + i))) (given_doubles row))

-- an angle of the answer is -0: both fields stand behind the corners
unfoldable pub has_minus_zero : List ℕ → Bool
has_minus_zero row = any_of (λ i. eqb (word_at row (13 + given_doubles row + count_at row 1 1 40 + i)) (2 ^ 63)) (count_at row 3 3 24 + count_at row 11 3 64)

-- the kinds of rows: 0 each, 1 with an angle -0, 2 with a NaN given
abbrev pub wanted_in : ℕ → List ℕ → Bool
wanted_in kind row = cond (eqb kind 0) true (cond (eqb kind 1) (has_minus_zero row) (has_nan row))
