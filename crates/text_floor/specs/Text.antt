-- A floor as refine.in has it (document 01, "A program reads refine.in"): which bytes are such a text, and the floor that it has. Definitions only.
-- A line is three columns of six bytes and a line feed. Line 0 has the counts of points and triangles and the threshold; then a line for each point,
-- x, y and angle, and a line for each triangle, its corners.
use Rattle.std.specs.Prelude.{ℕ, zero, suc, ◌+◌, ◌*◌, ◌≡◌, Bool, true, cond, ◌&&◌, List, [], ◌∷◌, ◌++◌, Option, None, Some, eqb, leb, length, get_or, take, drop, replicate, Float}
use Rattle.std.proofs.lemmas.List.Edits.{sets}
use Rattle.float.specs.Double.{lit, ◌⊘◌}
use Rattle.text_columns.specs.declared.Scan.{Scan}
use Rattle.text_columns.specs.Columns.{shown, is_number, is_whole, size_of, double_of}
use Rattle.text_floor.specs.declared.Floor.{Floor}

-- ---- lines

-- what the column shows that starts at byte a
abbrev pub column_at : List ℕ → ℕ → Scan
column_at s a = shown (take 6 (drop a s))

-- the three columns of line i
abbrev pub first : List ℕ → ℕ → Scan
first s i = column_at s (19 * i)

abbrev pub second : List ℕ → ℕ → Scan
second s i = column_at s (19 * i + 6)

abbrev pub third : List ℕ → ℕ → Scan
third s i = column_at s (19 * i + 12)

-- line i has three columns that pass a test, and ends with a line feed
abbrev pub line_by : (Scan → Bool) → List ℕ → ℕ → Bool
line_by p s i = p (first s i) && (p (second s i) && (p (third s i) && eqb (get_or s (19 * i + 18) 0) 10))

-- a line of numbers, and a line of numbers that are not below 0
unfoldable pub is_line : List ℕ → ℕ → Bool
is_line s i = line_by is_number s i

unfoldable pub is_corners : List ℕ → ℕ → Bool
is_corners s i = line_by is_whole s i

-- a test holds of k numbers, the first of them `from`
unfoldable pub every : (ℕ → Bool) → ℕ → ℕ → Bool
every p from zero = true
every p from (suc k) = every p from k && p (from + k)

-- ---- which bytes are a text

abbrev pub point_count : List ℕ → ℕ
point_count s = size_of (first s 0)

abbrev pub triangle_count : List ℕ → ℕ
triangle_count s = size_of (second s 0)

-- line 0: numbers, two counts, at most 256 each
unfoldable pub is_head : List ℕ → Bool
is_head s = is_line s 0 && (is_whole (first s 0) && (is_whole (second s 0) && (leb (point_count s) 256 && leb (triangle_count s) 256)))

-- all of it: as many lines as line 0 says and nothing behind them, each of its kind
unfoldable pub is_text : List ℕ → Bool
is_text s =
    is_head s && (eqb (length s) (19 * (1 + point_count s + triangle_count s))
    && (every (is_line s) 1 (point_count s) && every (is_corners s) (1 + point_count s) (triangle_count s)))

-- ---- the floor of a text

-- a number of 1/1024 radian
abbrev pub radians : Scan → Float
radians x = double_of x ⊘ lit 0x4090_0000_0000_0000

-- x, y and 0 of the first i points
unfoldable pub points_up_to : List ℕ → ℕ → List Float
points_up_to s zero = []
points_up_to s (suc i) = points_up_to s i ++ (double_of (first s (1 + i)) ∷ double_of (second s (1 + i)) ∷ lit 0 ∷ [])

unfoldable pub angles_up_to : List ℕ → ℕ → List Float
angles_up_to s zero = []
angles_up_to s (suc i) = angles_up_to s i ++ (radians (third s (1 + i)) ∷ [])

-- the three numbers of line k
abbrev pub sizes_at : List ℕ → ℕ → List ℕ
sizes_at s k = size_of (first s k) ∷ size_of (second s k) ∷ size_of (third s k) ∷ []

-- the corners of the first i triangles, behind n points
unfoldable pub corners_up_to : List ℕ → ℕ → ℕ → List ℕ
corners_up_to s n zero = []
corners_up_to s n (suc i) = corners_up_to s n i ++ sizes_at s (1 + n + i)

abbrev pub points_in : List ℕ → List Float
points_in s = points_up_to s (point_count s)

abbrev pub angles_in : List ℕ → List Float
angles_in s = angles_up_to s (point_count s)

abbrev pub corners_in : List ℕ → List ℕ
corners_in s = corners_up_to s (point_count s) (triangle_count s)

-- "sizes are 1"
abbrev pub sizes_in : List ℕ → List Float
sizes_in s = replicate (point_count s) (lit 0x3ff0_0000_0000_0000)

abbrev pub threshold_in : List ℕ → Float
threshold_in s = radians (third s 0)

-- ---- what reading answers and fills

abbrev pub floor_of : List ℕ → Floor
floor_of s = record { points = point_count s; triangles = triangle_count s; threshold = threshold_in s }

abbrev pub read_of : List ℕ → Option Floor
read_of s = cond (is_text s) (Some (floor_of s)) None

-- a text fills the front of three slices; any other bytes leave them as they were
pub record ReadTo (s : List ℕ) (p α : List Float) (k : List ℕ) (r : Option Floor) (p' α' : List Float) (k' : List ℕ) : Type 0 where
  pub answer : r ≡ read_of s
  pub points : p' ≡ cond (is_text s) (sets p 0 (points_in s)) p
  pub angles : α' ≡ cond (is_text s) (sets α 0 (angles_in s)) α
  pub corners : k' ≡ cond (is_text s) (sets k 0 (corners_in s)) k
