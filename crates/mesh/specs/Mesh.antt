-- Triangles and sides as numbers of points, and refinement of a list of triangles: which sides are cut, the number of each midpoint, the pieces.
-- The words are those of document 01, "Refinement between the passes". Definitions only.
use Rattle.std.specs.Prelude.{ℕ, zero, suc, ◌+◌, ◌<◌, ◌≤◌, ◌≡◌, ◌≢◌, ◌↔◌, ◌⊎◌, Bool, true, false, cond, ◌&&◌, ◌||◌, List, [], ◌∷◌, ◌++◌, T, eqb, ltb, length, get_or}
use Rattle.std.proofs.Math.Option.{Option, none, some}
use Rattle.mesh.specs.declared.ThreeCorners.{ThreeCorners}

-- a place of the triangle list: three corners, each the number of a point
pub data Tri : Type 0 where
  tri : ℕ → ℕ → ℕ → Tri

-- the corners that a list of numbers holds from `at` on
abbrev pub corners_at : List ℕ → ℕ → ThreeCorners
corners_at l at = record { a = get_or l at 0; b = get_or l (at + 1) 0; c = get_or l (at + 2) 0 }

-- a side, as it is listed: two numbers of points
pub data Side : Type 0 where
  side : ℕ → ℕ → Side

-- ---- which sides are cut

-- "two point numbers of one triangle, either way round": the lower end first, refine_once's `key`
unfoldable pub key : ℕ → ℕ → Side
key u v = cond (ltb u v) (side u v) (side v u)

abbrev pub same : Side → Side → Bool
same (side a b) (side c d) = eqb a c && eqb b d

abbrev pub next : Option ℕ → Option ℕ
next none = none
next (some k) = some (suc k)

-- the first place of a side in a list of sides, if it is there
unfoldable pub index_in : Side → List Side → Option ℕ
index_in s [] = none
index_in s (t ∷ ts) = cond (same s t) (some zero) (next (index_in s ts))

abbrev pub is_none : Option ℕ → Bool
is_none none = true
is_none (some k) = false

-- "in order first met": a side that is met goes to the end of the list, unless it is there.
-- So the list grows at its end alone, and a side keeps its place whatever is met later:
-- a list kept sorted by the ends of its sides would not do
unfoldable pub met : List Side → Side → List Side
met l s = cond (is_none (index_in s l)) (l ++ (s ∷ [])) l

unfoldable pub met_all : List Side → List Side → List Side
met_all l [] = l
met_all l (s ∷ ss) = met_all (met l s) ss

-- the three sides a b, b c and c a of a triangle, in the order in which the Rust goes through them
abbrev pub sides : Tri → List Side
sides (tri a b c) = key a b ∷ key b c ∷ key c a ∷ []

-- the sides of a list of triangles in the order first met, after those of l
unfoldable pub sides_after : List Side → List Tri → List Side
sides_after l [] = l
sides_after l (t ∷ ts) = sides_after (met_all l (sides t)) ts

-- the flagged triangles, in list order
unfoldable pub marked : (Tri → Bool) → List Tri → List Tri
marked f [] = []
marked f (t ∷ ts) = cond (f t) (t ∷ marked f ts) (marked f ts)

-- "sides of flagged triangles are cut": the cut sides, each once, refine_once's `edge_order`
unfoldable pub cuts : (Tri → Bool) → List Tri → List Side
cuts f ts = sides_after [] (marked f ts)

abbrev pub above : ℕ → Option ℕ → Option ℕ
above n none = none
above n (some k) = some (n + k)

-- "midpoints are numbered from n in order first met": the midpoint of the side of u and v if it is among the cut sides l, refine_once's `midpoint`
unfoldable pub mid : ℕ → List Side → ℕ → ℕ → Option ℕ
mid n l u v = above n (index_in (key u v) l)

-- ---- the pieces

-- "triangle a b c with midpoints p (ab), q (bc), r (ca) becomes the rows that `refine_once` pushes"
abbrev pub split : ℕ → ℕ → ℕ → Option ℕ → Option ℕ → Option ℕ → List Tri
split a b c none none none = tri a b c ∷ []
split a b c (some p) none none = tri a p c ∷ tri p b c ∷ []
split a b c none (some q) none = tri a b q ∷ tri a q c ∷ []
split a b c none none (some r) = tri a b r ∷ tri r b c ∷ []
split a b c (some p) (some q) none = tri b p q ∷ tri p a c ∷ tri p c q ∷ []
split a b c none (some q) (some r) = tri c q r ∷ tri q b a ∷ tri q a r ∷ []
split a b c (some p) none (some r) = tri a p r ∷ tri p b c ∷ tri p c r ∷ []
split a b c (some p) (some q) (some r) = tri a p r ∷ tri p b q ∷ tri r q c ∷ tri p q r ∷ []

-- the pieces of a triangle, where m gives the midpoint of a side that is cut
abbrev pub pieces : (ℕ → ℕ → Option ℕ) → Tri → List Tri
pieces m (tri a b c) = split a b c (m a b) (m b c) (m c a)

abbrev pub refined : (ℕ → ℕ → Option ℕ) → List Tri → List Tri
refined m [] = []
refined m (t ∷ ts) = pieces m t ++ refined m ts

-- the new triangles: f says which are flagged, n counts the points
unfoldable pub refine : ℕ → (Tri → Bool) → List Tri → List Tri
refine n f ts = refined (mid n (cuts f ts)) ts

-- ---- in how many places of a list of triangles a side lies

abbrev pub one : Bool → ℕ
one true = 1
one false = 0

-- x is a corner
abbrev pub at : ℕ → Tri → Bool
at x (tri a b c) = eqb x a || (eqb x b || eqb x c)

-- a side "lies in each place of the triangle list that has both" of its ends
unfoldable pub lies : ℕ → ℕ → Tri → Bool
lies x y t = at x t && at y t

abbrev pub total : (Tri → ℕ) → List Tri → ℕ
total f [] = 0
total f (t ∷ ts) = f t + total f ts

abbrev pub places : ℕ → ℕ → Tri → ℕ
places x y t = one (lies x y t)

-- how many places of the list the side x y lies in
abbrev pub count : ℕ → ℕ → List Tri → ℕ
count x y ts = total (places x y) ts

-- ---- what is asked of the list

-- the side of x and y is the side of a and b
abbrev pub Same : ℕ → ℕ → ℕ → ℕ → Type 0
Same x y a b = ((x ≡ a) × (y ≡ b)) ⊎ ((x ≡ b) × (y ≡ a))

-- each side is found at its own place, so that no side is listed twice
abbrev pub Numbered : List Side → Type 0
Numbered l = (k : ℕ) → k < length l → index_in (get_or l k (side 0 0)) l ≡ some k

-- m gives each cut side a midpoint, at or above n, that no other side has
pub record Mids (n : ℕ) (m : ℕ → ℕ → Option ℕ) : Type 0 where
  pub flip : (u v : ℕ) → m u v ≡ m v u
  pub high : (u v p : ℕ) → m u v ≡ some p → n ≤ p
  pub only : (u v x y p : ℕ) → m u v ≡ some p → m x y ≡ some p → Same u v x y

-- three pairwise different corners
abbrev pub Distinct : Tri → Type 0
Distinct (tri a b c) = (a ≢ b) × (b ≢ c) × (c ≢ a)

-- the same, and in range
abbrev pub Good : ℕ → Tri → Type 0
Good n (tri a b c) = (a < n) × (b < n) × (c < n) × (a ≢ b) × (b ≢ c) × (c ≢ a)

abbrev pub All : {A : Type 0} → (A → Type 0) → List A → Type 0
All P [] = Unit {0}
All P (t ∷ ts) = P t × All P ts

abbrev pub SameCorners : Tri → Tri → Type 0
SameCorners s t = (v : ℕ) → T (at v s) ↔ T (at v t)

-- no two places of the list have the same three corners
abbrev pub AllDifferent : List Tri → Type 0
AllDifferent [] = Unit {0}
AllDifferent (t ∷ ts) = All (λ s. ¬ SameCorners t s) ts × AllDifferent ts
