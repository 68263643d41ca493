-- The sides of a whole list of triangles, numbered: for each triangle the numbers of its three sides, and for each side how often it was met. The
-- corners stand in the slice w from c on, the numbers from e on, three to a triangle, and the table of crate edges from o on. Definitions only.
use Rattle.std.specs.Prelude.{ℕ, zero, suc, ◌+◌, ◌*◌, ◌^◌, ◌≤◌, ◌<◌, ◌≡◌, ◌⊎◌, List, [], ◌∷◌, ◌++◌, eqb, length, get_or}
use Rattle.mesh.specs.Mesh.{side, Tri, tri, sides, met_all, sides_after, one}
use Rattle.edges.specs.Table.{sides_in, Held, NumbersOf}
use Rattle.edges.specs.Sides.{times, listed}

-- triangle i of those whose corners stand from c on
abbrev pub tri_from : ℕ → List ℕ → ℕ → Tri
tri_from c w i = tri (get_or w (c + 3 * i) 0) (get_or w (c + 3 * i + 1) 0) (get_or w (c + 3 * i + 2) 0)

-- the first t of them
unfoldable pub tris_from : ℕ → List ℕ → ℕ → List Tri
tris_from c w zero = []
tris_from c w (suc i) = tris_from c w i ++ (tri_from c w i ∷ [])

-- there is room for t triangles: corners, numbers, table, in this order
pub record NumberingRoom (c e o N t len : ℕ) : Type 0 where
  pub corners : c + 3 * t ≤ e
  pub numbers : e + 3 * t ≤ o
  pub table : o + N + 12 * t ≤ len
  pub narrow : 3 * t < 2 ^ 32
  pub buckets : 0 < N
  pub few-buckets : N ≤ 2 ^ 32

-- triangle i was looked at: its sides are met, and their numbers stand at their place
pub record NumberStep (c e o N i : ℕ) (w : List ℕ) (m : ℕ) (w' : List ℕ) (m' : ℕ) : Type 0 where
  pub held : Held o N w' m'
  pub now-met : sides_in o N w' m' ≡ met_all (sides_in o N w m) (sides (tri_from c w i))
  pub numbers : NumbersOf (tri_from c w i) (sides_in o N w' m') (get_or w' (e + 3 * i) 0) (get_or w' (e + 3 * i + 1) 0) (get_or w' (e + 3 * i + 2) 0)
  pub more : m' ≤ m + 3
  pub most : m ≤ m'
  pub same_length : length w' ≡ length w
  pub elsewhere : (j : ℕ) → (j < o) ⊎ (o + N + 4 * m' ≤ j) → (j < e + 3 * i) ⊎ (e + 3 * i + 3 ≤ j) → get_or w' j 0 ≡ get_or w j 0

-- the m sides of the first t triangles stand in the table in the order first met, and the numbers of each triangle's sides at their place; all else is as it was
pub record NumberedTo (c e o N t : ℕ) (w w' : List ℕ) (m : ℕ) : Type 0 where
  pub held : Held o N w' m
  pub all-met : sides_in o N w' m ≡ sides_after [] (tris_from c w t)
  pub numbers : (i : ℕ) → i < t → NumbersOf (tri_from c w i) (sides_in o N w' m) (get_or w' (e + 3 * i) 0) (get_or w' (e + 3 * i + 1) 0) (get_or w' (e + 3 * i + 2) 0)
  pub few : m ≤ 3 * t
  pub same_length : length w' ≡ length w
  pub elsewhere : (j : ℕ) → (j < o) ⊎ (o + N + 4 * m ≤ j) → (j < e) ⊎ (e + 3 * t ≤ j) → get_or w' j 0 ≡ get_or w j 0

-- how often the number s stands among the first k from e on
unfoldable pub occurs : ℕ → ℕ → List ℕ → ℕ → ℕ
occurs s e w zero = 0
occurs s e w (suc k) = one (eqb s (get_or w (e + k) 0)) + occurs s e w k

-- the numbers from e on are below m
abbrev pub Below : ℕ → ℕ → List ℕ → ℕ → Type 0
Below m e w k = (j : ℕ) → j < k → get_or w (e + j) 0 < m

-- how often each of m numbers stands among the k from e on is counted from a on; all else is as it was
pub record Counted (e k a m : ℕ) (w w' : List ℕ) : Type 0 where
  pub same_length : length w' ≡ length w
  pub counts : (s : ℕ) → s < m → get_or w' (a + s) 0 ≡ occurs s e w k
  pub elsewhere : (j : ℕ) → (j < a) ⊎ (a + m ≤ j) → get_or w' j 0 ≡ get_or w j 0

-- how often a number occurs among the numbers of a list of triangles is how often its side is listed there
abbrev pub EachCounted : ℕ → ℕ → ℕ → ℕ → ℕ → List ℕ → List ℕ → ℕ → Type 0
EachCounted c e o N t w w' m = (s : ℕ) → s < m → occurs s e w' (3 * t) ≡ times (get_or (sides_in o N w' m) s (side 0 0)) (listed (tris_from c w t))
