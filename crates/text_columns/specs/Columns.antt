-- Whole numbers in columns of six bytes (document 01, "A program reads refine.in"): the bytes of a number, and how a column is read. Definitions only.
-- The two are tied by proofs/Strict.antt: a column reads as z exactly if it is `column z`.
use Rattle.std.specs.Prelude.{ℕ, zero, suc, ◌+◌, ◌-◌, ◌*◌, ◌/◌, ◌%◌, ◌<◌, Bool, true, false, cond, ◌&&◌, List, [], ◌∷◌, ◌++◌, eqb, ltb, length, get_or, replicate, ℤ, pos, negsuc, neg_ℤ, Float}
use Rattle.std.specs.Float.{binary64}
use Rattle.std.specs.Float.Ieee.{of_int, neg}
use Rattle.float.specs.Double.{lit}
use Rattle.text_columns.specs.declared.Scan.{Scan}
use Rattle.text_columns.specs.declared.Scan.TheVariants.{Blank, Minus, Zero, Whole, Negative, Bad}

-- ---- the bytes of a number

-- what stands next to the first digit: a minus or a blank
abbrev pub mark : Bool → ℕ
mark true = 45
mark false = 32

-- the digits of n right-justified in w bytes, after blanks and a mark; none for 0
unfoldable pub lead : Bool → ℕ → ℕ → List ℕ
lead minus zero n = []
lead minus (suc w) n = cond (eqb n 0) (replicate w 32 ++ (mark minus ∷ [])) (lead minus w (n / 10) ++ ((48 + n % 10) ∷ []))

-- six bytes, the last of them a digit even for 0
unfoldable pub in_six : Bool → ℕ → List ℕ
in_six minus n = lead minus 5 (n / 10) ++ ((48 + n % 10) ∷ [])

-- the column of a whole number; of one with more digits, which none of ours has, its last digits
abbrev pub column : ℤ → List ℕ
column (pos n) = in_six false n
column (negsuc n) = in_six true (suc n)

-- the numbers that a column holds: -99,999 to 999,999
abbrev pub InColumn : ℤ → Type 0
InColumn (pos n) = n < 1000000
InColumn (negsuc n) = suc n < 100000

abbrev pub column_of : ℕ → List ℕ
column_of n = column (pos n)

-- a row of numbers, and the line that has them
unfoldable pub columns_of : List ℕ → List ℕ
columns_of [] = []
columns_of (n ∷ ns) = column_of n ++ columns_of ns

unfoldable pub line_of : List ℕ → List ℕ
line_of ns = columns_of ns ++ (10 ∷ [])

-- the last digit of n, or a blank where no digit is left
unfoldable pub blank_or_digit : ℕ → ℕ
blank_or_digit n = cond (eqb n 0) 32 (48 + n % 10)

-- ---- reading, byte by byte: blanks, then a minus or none, then digits, the first of them not 0; or blanks and 0

unfoldable pub is_lead : ℕ → Bool
is_lead b = ltb 48 b && ltb b 58

unfoldable pub is_digit : ℕ → Bool
is_digit b = ltb 47 b && ltb b 58

unfoldable pub after_blank : ℕ → Scan
after_blank b = cond (eqb b 32) Blank (cond (eqb b 45) Minus (cond (eqb b 48) Zero (cond (is_lead b) (Whole (b - 48)) Bad)))

unfoldable pub after_minus : ℕ → Scan
after_minus b = cond (is_lead b) (Negative (b - 48)) Bad

unfoldable pub step : Scan → ℕ → Scan
step Blank b = after_blank b
step Minus b = after_minus b
step Zero b = Bad
step (Whole n) b = cond (is_digit b) (Whole (10 * n + (b - 48))) Bad
step (Negative n) b = cond (is_digit b) (Negative (10 * n + (b - 48))) Bad
step Bad b = Bad

-- what the first i bytes show
unfoldable pub scan : List ℕ → ℕ → Scan
scan l zero = Blank
scan l (suc i) = step (scan l i) (get_or l i 0)

-- what a whole column shows
abbrev pub shown : List ℕ → Scan
shown l = scan l (length l)

abbrev pub is_number : Scan → Bool
is_number Blank = false
is_number Minus = false
is_number Zero = true
is_number (Whole n) = true
is_number (Negative n) = true
is_number Bad = false

-- a number that is not below 0
abbrev pub is_whole : Scan → Bool
is_whole Blank = false
is_whole Minus = false
is_whole Zero = true
is_whole (Whole n) = true
is_whole (Negative n) = false
is_whole Bad = false

-- its size, its value and its double; 0 where there is none
abbrev pub size_of : Scan → ℕ
size_of Blank = 0
size_of Minus = 0
size_of Zero = 0
size_of (Whole n) = n
size_of (Negative n) = n
size_of Bad = 0

abbrev pub value_of : Scan → ℤ
value_of Blank = pos 0
value_of Minus = pos 0
value_of Zero = pos 0
value_of (Whole n) = pos n
value_of (Negative n) = neg_ℤ (pos n)
value_of Bad = pos 0

abbrev pub double_of : Scan → Float
double_of Blank = lit 0
double_of Minus = lit 0
double_of Zero = lit 0
double_of (Whole n) = of_int binary64 (pos n)
double_of (Negative n) = neg (of_int binary64 (pos n))
double_of Bad = lit 0
