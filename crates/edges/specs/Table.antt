-- Sides numbered in the order first met, in one slice of numbers: from `o` on, N buckets, then the lower end, the upper end and two links of each side.
-- Each bucket is the root of a digital search tree: a position, bucket or link, holds one more than the number of the side that stands there, or 0. The walk
-- to a side starts at its bucket, and goes on at the first or the second link of the side that it meets by the lowest digit of the side's path, which is then
-- halved; a new side goes to the empty position where its walk ends. Which bucket and which path a side has matters to nothing but the time that a walk
-- takes. A link leads to a later side than its own (`later`), so that a walk meets no side twice. Definitions only.
use Rattle.std.specs.Prelude.{ℕ, zero, suc, ◌+◌, ◌-◌, ◌*◌, ◌/◌, ◌%◌, ◌^◌, ◌≤◌, ◌<◌, ◌≡◌, ◌≢◌, cond, List, [], ◌∷◌, ◌++◌, map, ltb, length, get_or, None, Some, IfSome}
use Rattle.std.specs.Prelude.{Option as Maybe}
use Rattle.std.proofs.Math.Option.{Option, none, some}
use Rattle.std.proofs.lemmas.List.Edits.{sets}
use Rattle.mesh.specs.Mesh.{Side, side, key, Tri, tri, sides, met, met_all, index_in, Numbered}
use Rattle.edges.specs.declared.Table.{Table}
use Rattle.edges.specs.Sides.{lower, upper}

-- the bucket of a side, of N buckets: its lower end, where there are so many
unfoldable pub slot_of : ℕ → ℕ → ℕ → ℕ
slot_of N a b = cond (ltb a N) a (a % N)

-- the path of a side: the digits of its upper end, and then those of its lower end. 2 ^ 17 is above every point of a refined floor
unfoldable pub path_of : ℕ → ℕ → ℕ
path_of a b = a * 2 ^ 17 + b

-- the first m sides, from the ends at each place
unfoldable pub pairs : (ℕ → ℕ) → (ℕ → ℕ) → ℕ → List Side
pairs lo hi zero = []
pairs lo hi (suc k) = pairs lo hi k ++ (side (lo k) (hi k) ∷ [])

-- ---- trees of sides: `hold` is what each position holds, `under k` the first of side k's two links; the buckets begin at o

-- a position of the trees of m sides
pub data Spot (o N : ℕ) (under : ℕ → ℕ) (m q : ℕ) : Type 0 where
  bucket : (h : ℕ) → h < N → q ≡ o + h → Spot o N under m q
  link : (k s : ℕ) → k < m → s < 2 → q ≡ under k + s → Spot o N under m q

-- where a walk goes on after position p, with r left of its path
abbrev pub next : (ℕ → ℕ) → (ℕ → ℕ) → ℕ → ℕ → ℕ
next hold under p r = under (hold p - 1) + r % 2

-- the walk from position p on, with r left of its path, comes to side k after d sides
unfoldable pub LeadsIn : (ℕ → ℕ) → (ℕ → ℕ) → ℕ → ℕ → ℕ → ℕ → Type 0
LeadsIn hold under k zero p r = hold p ≡ suc k
LeadsIn hold under k (suc d) p r = (hold p ≢ 0) × LeadsIn hold under k d (next hold under p r) (r / 2)

pub record Leads (hold under : ℕ → ℕ) (k p r : ℕ) : Type 0 where
  pub depth : ℕ
  pub way : LeadsIn hold under k depth p r

-- the walk to each of m sides leads to it; a position holds one of them, and a link one behind its own side, so that every walk ends
pub record Trees (o N : ℕ) (lo hi hold under : ℕ → ℕ) (m : ℕ) : Type 0 where
  pub reached : (k : ℕ) → k < m → Leads hold under k (o + slot_of N (lo k) (hi k)) (path_of (lo k) (hi k))
  pub known : (q : ℕ) → Spot o N under m q → hold q ≤ m
  pub later : (k s : ℕ) → k < m → s < 2 → hold (under k + s) ≢ 0 → suc k < hold (under k + s)

-- what is held at each position is kept, where that is a side
abbrev pub Keeps : (o N : ℕ) (under hold hold' : ℕ → ℕ) (m : ℕ) → Type 0
Keeps o N under hold hold' m = (q : ℕ) → Spot o N under m q → hold q ≢ 0 → hold' q ≡ hold q

-- position p is empty, and the walk to the side a b comes to it: what leads on from there leads on from the side's bucket
pub record Free (o N : ℕ) (hold under : ℕ → ℕ) (m a b p : ℕ) : Type 0 where
  pub rest : ℕ
  pub empty : hold p ≡ 0
  pub through : (hold' : ℕ → ℕ) (k : ℕ) → Keeps o N under hold hold' m → Leads hold' under k p rest → Leads hold' under k (o + slot_of N a b) (path_of a b)

-- a place that may be none, as the code has it
abbrev pub place : Maybe ℕ → Option ℕ
place None = none
place (Some k) = some k

-- and as a number: one more than the place, or 0; and back
abbrev pub one_more : Option ℕ → ℕ
one_more none = 0
one_more (some k) = suc k

abbrev pub one_less : ℕ → Option ℕ
one_less zero = none
one_less (suc k) = some k

-- the walk to the side a b, by what is at its end: the side, by its number; or an empty position p, where it is to be put
pub record Walked (o N : ℕ) (lo hi hold under : ℕ → ℕ) (m a b : ℕ) (at : Maybe ℕ) (p : ℕ) : Type 0 where
  pub number : place at ≡ index_in (side a b) (pairs lo hi m)
  pub few : IfSome at (λ k. k < m)
  pub spot : Spot o N under m p
  pub free : at ≡ None → Free o N hold under m a b p

-- ---- the layout of a table in one slice

abbrev pub hold_of : List ℕ → ℕ → ℕ
hold_of w q = get_or w q 0

abbrev pub lo_of : ℕ → ℕ → List ℕ → ℕ → ℕ
lo_of o N w k = get_or w (o + N + 4 * k) 0

abbrev pub hi_of : ℕ → ℕ → List ℕ → ℕ → ℕ
hi_of o N w k = get_or w (o + N + 4 * k + 1) 0

abbrev pub under_of : ℕ → ℕ → ℕ → ℕ
under_of o N k = o + N + 4 * k + 2

-- the first m sides of a table
abbrev pub sides_in : ℕ → ℕ → List ℕ → ℕ → List Side
sides_in o N w m = pairs (lo_of o N w) (hi_of o N w) m

-- where the row of side k begins: its lower end
abbrev pub row_of : Table → ℕ → ℕ
row_of t k = t.base + t.buckets + 4 * k

-- the sides of a table: in refinement and in a solve, the cut ones
abbrev pub cuts_in : Table → List ℕ → List Side
cuts_in t u = sides_in t.base t.buckets u t.sides

-- where a table ends in its slice
abbrev pub end_of : Table → ℕ
end_of t = t.base + t.buckets + 4 * t.sides

-- w with the lower ends of the first m sides of a table from f on, and their upper ends from t on
unfoldable pub split : ℕ → ℕ → ℕ → ℕ → ℕ → List ℕ → List ℕ
split o N m f t w = sets (sets w f (map lower (sides_in o N w m))) t (map upper (sides_in o N w m))

-- every fourth number from a on, m of them
unfoldable pub fourths : ℕ → List ℕ → ℕ → List ℕ
fourths a w zero = []
fourths a w (suc k) = fourths a w k ++ (get_or w (a + 4 * k) 0 ∷ [])

-- m sides stand in the slice w from o on, with N buckets
pub record Held (o N : ℕ) (w : List ℕ) (m : ℕ) : Type 0 where
  pub buckets : 0 < N
  pub narrow : N ≤ 2 ^ 32
  pub room : o + N + 4 * m ≤ length w
  pub trees : Trees o N (lo_of o N w) (hi_of o N w) (hold_of w) (under_of o N) m
  pub numbered : Numbered (sides_in o N w m)

abbrev pub WalkedIn : ℕ → ℕ → List ℕ → ℕ → ℕ → ℕ → Maybe ℕ → ℕ → Type 0
WalkedIn o N w = Walked o N (lo_of o N w) (hi_of o N w) (hold_of w) (under_of o N)

-- the slice outside the table of m sides is as it was
pub record Outside (o N : ℕ) (w : List ℕ) (m : ℕ) (w' : List ℕ) : Type 0 where
  pub same : length w' ≡ length w
  pub before : (j : ℕ) → j < o → get_or w' j 0 ≡ get_or w j 0
  pub behind : (j : ℕ) → o + N + 4 * m ≤ j → get_or w' j 0 ≡ get_or w j 0

-- a side s was met, and has the number k: there were m sides, and now there are m'
pub record Met (o N : ℕ) (w : List ℕ) (m : ℕ) (w' : List ℕ) (m' k : ℕ) (s : Side) : Type 0 where
  pub held : Held o N w' m'
  pub now-met : sides_in o N w' m' ≡ met (sides_in o N w m) s
  pub number : index_in s (sides_in o N w' m') ≡ some k
  pub more : m' ≤ m + 1
  pub outside : Outside o N w m' w'

-- the numbers of a triangle's sides in a list of sides
abbrev pub NumbersOf : Tri → List Side → ℕ → ℕ → ℕ → Type 0
NumbersOf (tri a b c) l p q r = (index_in (key a b) l ≡ some p) × (index_in (key b c) l ≡ some q) × (index_in (key c a) l ≡ some r)

-- the three sides of a triangle were met, and have the numbers p, q and r
pub record MetTri (o N : ℕ) (w : List ℕ) (m : ℕ) (w' : List ℕ) (m' p q r : ℕ) (t : Tri) : Type 0 where
  pub held : Held o N w' m'
  pub now-met : sides_in o N w' m' ≡ met_all (sides_in o N w m) (sides t)
  pub numbers : NumbersOf t (sides_in o N w' m') p q r
  pub more : m' ≤ m + 3
  pub most : m ≤ m'
  pub outside : Outside o N w m' w'
