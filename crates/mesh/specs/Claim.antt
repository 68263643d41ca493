-- What refinement does to the sides of a list of triangles, as one claim: the part of demand 3 that is about numbers of points alone.
-- Its words are those of document 01, "Refinement between the passes". Definitions only.
use Rattle.std.specs.Prelude.{ℕ, suc, ◌+◌, ◌≤◌, ◌<◌, ◌≡◌, ◌≢◌, ◌↔◌, Bool, not, List, [], ◌∷◌, ◌++◌, length}
use Rattle.std.proofs.Math.Option.{Option, none, some}
use Rattle.mesh.specs.Mesh.{Tri, tri, Side, side, key, index_in, Same, Numbered, marked, count, Good, All, AllDifferent, pieces, refined, one, is_none}

-- ---- the list of cut sides

-- the sides of a list of triangles as refine_once goes through them: triangle by triangle, and a b, b c, c a of each
unfoldable pub listed : List Tri → List Side
listed [] = []
listed (tri a b c ∷ ts) = key a b ∷ key b c ∷ key c a ∷ listed ts

-- l has the sides that the list `all` has, each once, in the order first met
pub record FirstMet (all l : List Side) : Type 0 where
  -- a side is in the one exactly if it is in the other
  pub same : (s : Side) → (index_in s l ≡ none) ↔ (index_in s all ≡ none)
  -- each once
  pub once : Numbered l
  -- of two sides, the one that stands first in l was met first
  pub order : (s t : Side) (j k p q : ℕ) → index_in s l ≡ some j → index_in t l ≡ some k → index_in s all ≡ some p → index_in t all ≡ some q → j < k → p < q

-- two of n points, the lower first
abbrev pub LowerFirst : ℕ → Side → Type 0
LowerFirst n (side a b) = (a ≤ b) × (b < n)

-- two different points, the lower first
abbrev pub TwoEnds : Side → Type 0
TwoEnds (side a b) = a < b

-- corners in range: corners may repeat, for the refinement call has no row 19
abbrev pub InRange : ℕ → Tri → Type 0
InRange n (tri a b c) = (a < n) × (b < n) × (c < n)

-- the list l of the cut sides of triangles ts with corners in range, flagged by f
pub record CutSides (n : ℕ) (f : Tri → Bool) (ts : List Tri) (l : List Side) : Type 0 where
  -- "sides of flagged triangles are cut", no others, and each is listed once, "in order first met"
  pub met : FirstMet (listed (marked f ts)) l
  -- the lower end first
  pub lower-first : All (LowerFirst n) l
  -- the two ends are one point only where a flagged triangle has a corner twice
  pub two_ends : All (Good n) (marked f ts) → All TwoEnds l

-- ---- the claim

-- how many sides of a triangle are cut: document 01's k
abbrev pub cuts_of : (ℕ → ℕ → Option ℕ) → Tri → ℕ
cuts_of m (tri a b c) = one (not (is_none (m a b))) + (one (not (is_none (m b c))) + one (not (is_none (m c a))))

-- the triangles `ts` of n points, flagged by f, become the triangles `new`; l lists the cut sides, and m gives the midpoint of a side that is cut
pub record Refines (n : ℕ) (f : Tri → Bool) (ts new : List Tri) (l : List Side) (m : ℕ → ℕ → Option ℕ) : Type 0 where
  -- a side is cut exactly when it lies in a flagged triangle
  pub cut : (u v : ℕ) → u ≢ v → ((k : ℕ) × (m u v ≡ some k)) ↔ (count u v (marked f ts) ≢ 0)
  -- the cut sides are listed once, in the order first met, each of two different points with the lower first
  pub cut-sides : CutSides n f ts l
  pub two_ends : All TwoEnds l
  -- "midpoints are numbered from n": the side at place k of the list, and no other, has the midpoint n + k
  pub numbers : (u v k : ℕ) → (m u v ≡ some (n + k)) ↔ (index_in (key u v) l ≡ some k)
  -- a midpoint is one of the new points, which follow the n old ones
  pub midpoint : (u v k : ℕ) → m u v ≡ some k → (n ≤ k) × (k < n + length l)
  -- "a midpoint m that no other side has", and the same one either way round
  pub only : (u v x y k : ℕ) → m u v ≡ some k → m x y ≡ some k → Same u v x y
  pub flip : (u v : ℕ) → m u v ≡ m v u
  -- an uncut side lies in as many new triangles as old ones
  pub uncut : (x y : ℕ) → x < n → y < n → x ≢ y → m x y ≡ none → count x y new ≡ count x y ts
  -- a cut side lies whole in none, and each of its halves in as many new triangles as the side lay in old ones
  pub gone : (x y k : ℕ) → x < n → y < n → x ≢ y → m x y ≡ some k → count x y new ≡ 0
  pub halves : (x y k : ℕ) → x < n → y < n → x ≢ y → m x y ≡ some k → (count x k new ≡ count x y ts) × (count k y new ≡ count x y ts)
  -- "an inner side is any side of a new triangle that is neither an old side nor a half": it lies in exactly two, if no two old triangles have the same three corners
  pub inner : AllDifferent ts → (x y : ℕ) → x ≢ y → count x y new ≢ 0 → count x y ts ≡ 0 → ((u v k : ℕ) → m u v ≡ some k → Same x y u k → ⊥) → count x y new ≡ 2
  -- "the pieces of a triangle with k cut sides are the next k + 1 new triangles in list order"
  pub order : (s r : List Tri) (t : Tri) → ts ≡ s ++ t ∷ r → new ≡ refined m s ++ (pieces m t ++ refined m r)
  pub pieces_of : (t : Tri) → length (pieces m t) ≡ suc (cuts_of m t)
