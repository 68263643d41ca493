-- The lines that the refinement program prints for an answer of the refinement call (document 01: "It prints, in the same columns, points, triangles,
-- flagged, cut sides; the triangles; the ends of each cut side"). Definitions only.
use Rattle.std.specs.Prelude.{ℕ, zero, suc, ◌+◌, ◌*◌, ◌≤◌, List, [], ◌∷◌, ◌++◌, ◌≡◌, length, get_or, Ok, Err}
use Rattle.std.proofs.lemmas.List.Edits.{sets}
use Rattle.mesh.specs.Mesh.{Tri, tri, Side, side}
use Rattle.refinement.specs.Floor.{tris}
use Rattle.refine_call.specs.declared.Counts.{Counts}
use Rattle.refine_call.specs.Call.{Answer}
use Rattle.text_columns.specs.Columns.{line_of}

unfoldable pub triangle_lines : List Tri → List ℕ
triangle_lines [] = []
triangle_lines (tri a b c ∷ ts) = line_of (a ∷ b ∷ c ∷ []) ++ triangle_lines ts

unfoldable pub side_lines : List Side → List ℕ
side_lines [] = []
side_lines (side a b ∷ l) = line_of (a ∷ b ∷ []) ++ side_lines l

-- "points, triangles, flagged, cut sides; the triangles; the ends of each cut side"
unfoldable pub lines_of : Counts → List Tri → List Side → List ℕ
lines_of k ts l = line_of (k.points ∷ k.triangles ∷ k.flagged ∷ k.cut ∷ []) ++ (triangle_lines ts ++ side_lines l)

-- the line `refused`
unfoldable pub refused_line : List ℕ
refused_line = 114 ∷ 101 ∷ 102 ∷ 117 ∷ 115 ∷ 101 ∷ 100 ∷ 10 ∷ []

-- ---- the lines of an answer whose triangles and ends lie in two slices

-- the first i sides of a list of ends
unfoldable pub sides_up_to : List ℕ → ℕ → List Side
sides_up_to l zero = []
sides_up_to l (suc i) = sides_up_to l i ++ (side (get_or l (2 * i) 0) (get_or l (2 * i + 1) 0) ∷ [])

abbrev pub bytes_for : Answer → List ℕ → List ℕ → List ℕ
bytes_for (Ok k) ot oe = lines_of k (tris ot k.triangles) (sides_up_to oe k.cut)
bytes_for (Err x) ot oe = refused_line

-- the slices, of these lengths, hold what the counts say, and there is room for the lines
abbrev pub Holds : Answer → ℕ → ℕ → ℕ → Type 0
Holds (Ok k) ot oe out = (3 * k.triangles ≤ ot) × ((2 * k.cut ≤ oe) × (25 + 19 * k.triangles + 13 * k.cut ≤ out))
Holds (Err x) ot oe out = 8 ≤ out

-- the line of triangle i, and of side i
abbrev pub line_at : List ℕ → ℕ → List ℕ
line_at l i = line_of (get_or l (3 * i) 0 ∷ get_or l (3 * i + 1) 0 ∷ get_or l (3 * i + 2) 0 ∷ [])

abbrev pub side_at : List ℕ → ℕ → List ℕ
side_at l i = line_of (get_or l (2 * i) 0 ∷ get_or l (2 * i + 1) 0 ∷ [])

-- the bytes stand at the front of the slice, and r counts them
abbrev pub Prints : List ℕ → List ℕ → List ℕ → ℕ → Type 0
Prints bytes out out' r = (out' ≡ sets out 0 bytes) × (r ≡ length bytes)
