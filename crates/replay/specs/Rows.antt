-- Rows of recorded words: doubles, corners and counts, and how far a list of rows has been read. Definitions only.
use Rattle.std.specs.Prelude.{◌≡◌, ℕ, zero, suc, ◌+◌, ◌-◌, ◌%◌, ◌^◌, ◌≤◌, Bool, true, false, cond, List, [], ◌∷◌, ◌++◌, length, take, replicate, from_bits, nat_lt, to_bits, Float}
use Rattle.std.specs.Io.KnownBytes.{Consumes}
use Rattle.std.specs.declared.option.Option.{Option}
use Rattle.std.specs.Fmt.{decimal}
use lib.Chars.{codes}
use Rattle.std.specs.Float.{binary64}
use Rattle.float.specs.Double.{lit}
use Rattle.replay.specs.Words.{word_at, same_double}
use Rattle.replay.specs.declared.rows.Reading.{Reading}

-- n numbers stand at the front of a list
abbrev pub IsPrefixLen : ℕ → List ℕ → Type 0
IsPrefixLen n xs = (n ≤ length xs) × (n ≡ length (take n xs))

-- what a reader lost, where its bytes are known, stands at the front of a list
abbrev pub LosesFront : Option (List ℕ) → Option (List ℕ) → List ℕ → Type 0
LosesFront old new xs = (n : ℕ) × (n ≤ length xs) × Consumes old new (take n xs)

-- f 0, f 1, .. , as many as are asked for
unfoldable pub up_to : {A : Type 0} → (ℕ → A) → ℕ → List A
up_to f zero = []
up_to f (suc i) = up_to f i ++ (f i ∷ [])

-- word k as a double, and as the number of a point
abbrev pub double_at : List ℕ → ℕ → Float
double_at text k = from_bits binary64 (word_at text k)

abbrev pub corner_at : List ℕ → ℕ → ℕ
corner_at text k = word_at text k % 2 ^ 32

-- a count, and the most that there is room for where the count is above it
abbrev pub at_most : ℕ → ℕ → ℕ
at_most most n = cond (nat_lt n most) n most

-- so many doubles, or corners, from word k on
abbrev pub doubles_at : List ℕ → ℕ → ℕ → List Float
doubles_at text k n = up_to (λ i. double_at text (k + i)) n

abbrev pub corners_at : List ℕ → ℕ → ℕ → List ℕ
corners_at text k n = up_to (λ i. corner_at text (k + i)) n

-- the front of a list, as long as word k says, or the whole list
abbrev pub front : {A : Type 0} → List ℕ → ℕ → List A → List A
front text k l = take (at_most (length l) (word_at text k)) l

-- what lent slices hold before the call: -7.5, and a word that is no number of a point
abbrev pub marks : ℕ → List Float
marks n = replicate n (lit 0xc01e_0000_0000_0000)

abbrev pub word_marks : ℕ → List ℕ
word_marks n = replicate n 0xdead_beef

-- two doubles are the same, where all NaNs are one
abbrev pub same_as : Float → Float → Bool
same_as x y = same_double (to_bits binary64 x) (to_bits binary64 y)

-- two lists are as long, and each element of the one is the same as that of the other
unfoldable pub same_all : {A : Type 0} → (A → A → Bool) → List A → List A → Bool
same_all f [] [] = true
same_all f [] (y ∷ b) = false
same_all f (x ∷ a) [] = false
same_all f (x ∷ a) (y ∷ b) = cond (f x y) (same_all f a b) false

-- one more, as a counter of 64 bits has it
abbrev pub next : ℕ → ℕ
next n = (n + 1) % 2 ^ 64

-- whether f holds of a number below n
unfoldable pub any_of : (ℕ → Bool) → ℕ → Bool
any_of f zero = false
any_of f (suc i) = cond (any_of f i) true (f i)

-- ---- a list that is being read

-- nothing read yet
abbrev pub begun : Reading
begun = record { left = 2 ^ 64 - 1; recorded = 0; differ = 0 }

-- nothing left
abbrev pub ended_at : Reading → Reading
ended_at t = record { left = 0; recorded = t.recorded; differ = t.differ }

-- a row that is not judged
abbrev pub passed_by : Reading → Reading
passed_by t = record { left = t.left - 1; recorded = t.recorded; differ = t.differ }

-- a row more, which holds or differs
abbrev pub judged_by : Bool → Reading → Reading
judged_by b t = record { left = t.left - 1; recorded = next t.recorded; differ = cond b t.differ (next t.differ) }

-- the line that tells of it: the name, how many rows were judged, and how many of those differ
abbrev pub line_of : List ℕ → Reading → List ℕ
line_of name t = name ++ (codes " " ++ (decimal t.recorded ++ (codes " recorded, " ++ (decimal t.differ ++ codes " differ\n"))))
