-- The marks of a triangle: three numbers at 3 i of the slice that takes the pieces later, for its sides a b, b c and c a. While sides are cut the first is a flag,
-- 0 or not; then each is one more than the midpoint of its side, or 0 where that is not cut. What each step leaves of them. Definitions only.
use Rattle.std.specs.Prelude.{ℕ, zero, suc, ◌+◌, ◌-◌, ◌*◌, ◌^◌, ◌≤◌, ◌<◌, ◌≡◌, ◌≢◌, ◌⊎◌, Bool, cond, List, [], ◌∷◌, ◌++◌, eqb, length, get_or}
use Rattle.std.proofs.Math.Option.{some}
use Rattle.mesh.specs.Mesh.{Tri, Side, sides, met_all, sides_after, cuts, marked, one, mid, split}
use Rattle.edges.specs.Table.{one_more, one_less}
use Rattle.edges.specs.TwoSlices.{sides_at, HeldInTwo}
use Rattle.refinement.specs.declared.Cut.{Cut}
use Rattle.refinement.specs.Floor.{tris, tri_at}

-- ---- which triangles are marked, and the pieces that the marks give

-- those of the first i triangles of l whose first mark is not 0
unfoldable pub marked_by : List ℕ → List ℕ → ℕ → List Tri
marked_by w l zero = []
marked_by w l (suc i) = marked_by w l i ++ cond (eqb (get_or w (3 * i) 0) 0) [] (tri_at l i ∷ [])

-- the pieces of triangle i
abbrev pub split_at : List ℕ → List ℕ → ℕ → List Tri
split_at w l i = split (get_or l (3 * i) 0) (get_or l (3 * i + 1) 0) (get_or l (3 * i + 2) 0) (one_less (get_or w (3 * i) 0)) (one_less (get_or w (3 * i + 1) 0)) (one_less (get_or w (3 * i + 2) 0))

-- the pieces of the first i triangles
unfoldable pub split_to : List ℕ → List ℕ → ℕ → List Tri
split_to w l zero = []
split_to w l (suc i) = split_to w l i ++ split_at w l i

-- 1 where a mark is that of a cut side
abbrev pub cut_mark : ℕ → ℕ
cut_mark zero = 0
cut_mark (suc x) = 1

-- x is the mark of a side of u and v that is cut
abbrev pub Cuts : ℕ → List Side → ℕ → ℕ → ℕ → Type 0
Cuts n s u v x = (0 < x) × (mid n s u v ≡ some (x - 1))

-- all three sides of triangle i are cut, and it has their marks, of n points and the cut sides s
abbrev pub CutsAt : ℕ → List Side → List ℕ → List ℕ → ℕ → Type 0
CutsAt n s w l i = Cuts n s (get_or l (3 * i) 0) (get_or l (3 * i + 1) 0) (get_or w (3 * i) 0)
    × (Cuts n s (get_or l (3 * i + 1) 0) (get_or l (3 * i + 2) 0) (get_or w (3 * i + 1) 0) × Cuts n s (get_or l (3 * i + 2) 0) (get_or l (3 * i) 0) (get_or w (3 * i + 2) 0))

-- triangle i has the marks of its sides
abbrev pub MarksAt : ℕ → List Side → List ℕ → List ℕ → ℕ → Type 0
MarksAt n s w l i = (get_or w (3 * i) 0 ≡ one_more (mid n s (get_or l (3 * i) 0) (get_or l (3 * i + 1) 0)))
    × ((get_or w (3 * i + 1) 0 ≡ one_more (mid n s (get_or l (3 * i + 1) 0) (get_or l (3 * i + 2) 0))) × (get_or w (3 * i + 2) 0 ≡ one_more (mid n s (get_or l (3 * i + 2) 0) (get_or l (3 * i) 0))))

-- ---- the flags

-- each of the first i triangles has its flag, and c are flagged; what stands behind their marks stays
pub record FlagsTo (f : Tri → Bool) (l : List ℕ) (i : ℕ) (w w' : List ℕ) (c : ℕ) : Type 0 where
  pub flags : (j : ℕ) → j < i → get_or w' (3 * j) 0 ≡ one (f (tri_at l j))
  pub counted : c ≡ length (marked f (tris l i))
  pub seldom : c ≤ i
  pub same : length w' ≡ length w
  pub behind : (j : ℕ) → 3 * i ≤ j → get_or w' j 0 ≡ get_or w j 0

-- ---- the cut sides: t triangles, n points, and a table of N buckets behind the marks, its ends in e

-- there is room for the sides of t triangles in a table from o on, behind these triangles' marks, and for the midpoints' numbers
pub record MarksRoom (n o N t corners ends marks : ℕ) : Type 0 where
  pub marks-before : 3 * t ≤ o
  pub corners-in : 3 * t ≤ corners
  pub ends-in : 6 * t ≤ ends
  pub marks-in : o + N + 6 * t ≤ marks
  pub few : n + (3 * t + 1) < 2 ^ 32

-- triangle i was looked at, with a table of m sides behind the marks, from o on: if it is marked its sides are met, and it has their marks
pub record CutsStep (n o N : ℕ) (l : List ℕ) (i : ℕ) (e w : List ℕ) (m : ℕ) (e' w' : List ℕ) (m' : ℕ) : Type 0 where
  pub held : HeldInTwo o N e' w' m'
  pub now-cut : sides_at e' m' ≡ cond (eqb (get_or w (3 * i) 0) 0) (sides_at e m) (met_all (sides_at e m) (sides (tri_at l i)))
  pub more : m' ≤ cond (eqb (get_or w (3 * i) 0) 0) m (m + 3)
  pub most : m ≤ m'
  pub cut-marks : get_or w (3 * i) 0 ≢ 0 → CutsAt n (sides_at e' m') w' l i
  pub no-marks : get_or w (3 * i) 0 ≡ 0 → get_or w' (3 * i) 0 ≡ 0
  pub same_ends : length e' ≡ length e
  pub same : length w' ≡ length w
  pub ends-behind : (j : ℕ) → 2 * m' ≤ j → get_or e' j 0 ≡ get_or e j 0
  pub before : (j : ℕ) → j < o → (j < 3 * i) ⊎ (3 * i + 3 ≤ j) → get_or w' j 0 ≡ get_or w j 0
  pub behind : (j : ℕ) → o + N + 2 * m' ≤ j → get_or w' j 0 ≡ get_or w j 0

-- the sides of the marked ones of the first i triangles stand in the table, m of them, and these triangles have their sides' marks; the others' first marks stay
pub record CutsTo (n N t : ℕ) (l : List ℕ) (i : ℕ) (e w e' w' : List ℕ) (m : ℕ) : Type 0 where
  pub held : HeldInTwo (3 * t) N e' w' m
  pub all-cut : sides_at e' m ≡ sides_after [] (marked_by w l i)
  pub few : m ≤ 3 * length (marked_by w l i)
  pub seldom : length (marked_by w l i) ≤ i
  pub cut-marks : (j : ℕ) → j < i → get_or w (3 * j) 0 ≢ 0 → CutsAt n (sides_at e' m) w' l j
  pub no-marks : (j : ℕ) → j < i → get_or w (3 * j) 0 ≡ 0 → get_or w' (3 * j) 0 ≡ 0
  pub ahead : (j : ℕ) → 3 * i ≤ j → j < 3 * t → get_or w' j 0 ≡ get_or w j 0
  pub same_ends : length e' ≡ length e
  pub same : length w' ≡ length w
  pub ends-behind : (j : ℕ) → 2 * m ≤ j → get_or e' j 0 ≡ get_or e j 0
  pub behind : (j : ℕ) → 3 * t + N + 2 * m ≤ j → get_or w' j 0 ≡ get_or w j 0

-- flags, a table of three buckets a flagged triangle, and the cut sides; where none is flagged nothing but flags
pub record Marked (f : Tri → Bool) (n : ℕ) (l : List ℕ) (t : ℕ) (e w e' w' : List ℕ) (cut : Cut) : Type 0 where
  pub flagged : cut.flagged ≡ length (marked f (tris l t))
  pub all-cut : sides_at e' cut.sides ≡ cuts f (tris l t)
  pub few : cut.sides ≤ 3 * cut.flagged
  pub seldom : cut.flagged ≤ t
  pub held : cut.flagged ≢ 0 → HeldInTwo (3 * t) (3 * cut.flagged) e' w' cut.sides
  pub as_many : cut.flagged ≢ 0 → length (marked_by w' l t) ≡ cut.flagged
  pub cut-marks : cut.flagged ≢ 0 → (j : ℕ) → j < t → get_or w' (3 * j) 0 ≢ 0 → CutsAt n (sides_at e' cut.sides) w' l j
  pub same_ends : length e' ≡ length e
  pub same : length w' ≡ length w
  pub ends-behind : (j : ℕ) → 2 * cut.sides ≤ j → get_or e' j 0 ≡ get_or e j 0
  pub behind : (j : ℕ) → 3 * t + 9 * cut.flagged ≤ j → get_or w' j 0 ≡ get_or w j 0

-- ---- the marks of the triangles that are not flagged

-- the marks of t triangles lie before the table, from o on, and the numbers of m midpoints and of the pieces are small enough
pub record PiecesRoom (n o m t corners : ℕ) : Type 0 where
  pub marks-before : 3 * t ≤ o
  pub corners-in : 3 * t ≤ corners
  pub few-points : n + m < 2 ^ 32
  pub few-pieces : 4 * t < 2 ^ 32

-- triangle i has them, and k pieces; all else stays
pub record MarksStep (n : ℕ) (s : List Side) (l : List ℕ) (i : ℕ) (w w' : List ℕ) (k : ℕ) : Type 0 where
  pub marks : MarksAt n s w' l i
  pub counted : k ≡ length (split_at w' l i)
  pub least : cond (eqb (get_or w (3 * i) 0) 0) 1 4 ≤ k
  pub most : k ≤ 4
  pub same : length w' ≡ length w
  pub elsewhere : (j : ℕ) → (j < 3 * i) ⊎ (3 * i + 3 ≤ j) → get_or w' j 0 ≡ get_or w j 0

-- the first i triangles have the marks of their sides, of n points and the cut sides s, and there are k pieces of them; all else stays
pub record MarksTo (n : ℕ) (s : List Side) (l : List ℕ) (i : ℕ) (w w' : List ℕ) (k : ℕ) : Type 0 where
  pub marks : (j : ℕ) → j < i → MarksAt n s w' l j
  pub counted : k ≡ length (split_to w' l i)
  pub least : i + 3 * length (marked_by w l i) ≤ k
  pub most : k ≤ 4 * i
  pub same : length w' ≡ length w
  pub ahead : (j : ℕ) → 3 * i ≤ j → get_or w' j 0 ≡ get_or w j 0
