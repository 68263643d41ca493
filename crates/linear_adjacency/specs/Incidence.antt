-- What is claimed of the lists, and what `lent::vertex_lists` answers on any slices. Definitions only.
use Rattle.std.specs.Prelude.{ℕ, zero, suc, ◌+◌, ◌*◌, ◌-◌, ◌^◌, ◌<◌, ◌≡◌, Bool, true, not, cond, ◌&&◌, List, [], ◌∷◌, ltb, eqb, length, get_or}
use Rattle.linear_cells.specs.Region.{region, put}
use Rattle.linear_adjacency.specs.Adjacency.{meets, adjacency}

-- ---- the lists as a reader of a slice finds them

-- the list of vertex v of n, in a slice that has the lists from its front: numbers v and v + 1 say where it begins and ends, behind the n + 1 of these
unfoldable pub list_in : List ℕ → ℕ → ℕ → List ℕ
list_in l n v = region 0 l (n + 1 + get_or l v 0) (get_or l (v + 1) 0 - get_or l v 0)

-- how often e is in a list
unfoldable pub times : ℕ → List ℕ → ℕ
times e [] = 0
times e (x ∷ xs) = cond (eqb x e) 1 0 + times e xs

-- document 02's words: the lists hold each edge once at each of its ends, in rising order. The ends of edge e are a e and b e
pub record Incidence (n : ℕ) (a b l : List ℕ) : Type 0 where
  pub rising : (v : ℕ) → v < n → (j k : ℕ) → j < k → k < length (list_in l n v) → get_or (list_in l n v) j 0 < get_or (list_in l n v) k 0
  -- an edge is in the lists of its two ends, and in no other
  pub once : (v : ℕ) → v < n → (e : ℕ) → e < length a → times e (list_in l n v) ≡ cond (meets a b v e) 1 0
  -- and a list has nothing but edges
  pub edges : (v : ℕ) → v < n → (k : ℕ) → k < length (list_in l n v) → get_or (list_in l n v) k 0 < length a
  -- the first begins at 0, each where the one before it ends, and the last ends behind two numbers for each edge
  pub first : get_or l 0 0 ≡ 0
  pub next : (v : ℕ) → v < n → get_or l (v + 1) 0 ≡ get_or l v 0 + length (list_in l n v)
  pub all : get_or l n 0 ≡ 2 * length a

-- ---- what `lent::vertex_lists` tests

-- `lent::is_edge`: two different ends below n
unfoldable pub is_edge : ℕ → ℕ → ℕ → Bool
is_edge n a b = ltb a n && (ltb b n && not (eqb a b))

-- of the first e edges all are such
unfoldable pub are_edges_to : ℕ → List ℕ → List ℕ → ℕ → Bool
are_edges_to n a b zero = true
are_edges_to n a b (suc e) = are_edges_to n a b e && is_edge n (get_or a e 0) (get_or b e 0)

-- `lent::are_edges`
unfoldable pub are_edges : ℕ → List ℕ → List ℕ → Bool
are_edges n a b = eqb (length b) (length a) && are_edges_to n a b (length a)

-- `lent::has_room`: n + 1 numbers and two for each edge fit, and each is a u32
unfoldable pub has_room : ℕ → ℕ → ℕ → Bool
has_room n edges room = ltb edges (2 ^ 31) && ltb (n + 2 * edges) room

unfoldable pub listable : ℕ → List ℕ → List ℕ → ℕ → Bool
listable n a b room = are_edges n a b && has_room n (length a) room

-- `lent::vertex_lists` on a slice l, which it leaves as l': whether it made the lists, and the lists over the front of the slice, or the slice as it was
pub record VertexLists (n : ℕ) (a b l l' : List ℕ) (r : Bool) : Type 0 where
  pub made : r ≡ listable n a b (length l)
  pub lists : l' ≡ cond (listable n a b (length l)) (put l 0 (adjacency a b n)) l
