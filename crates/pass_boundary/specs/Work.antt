-- How the two work slices hold what boundary_targets reads and writes, and what its functions require and leave.
use Rattle.std.specs.Prelude.{ℕ, ◌+◌, ◌*◌, ◌^◌, ◌≤◌, ◌<◌, ◌≡◌, ◌⊎◌, Bool, false, cond, ◌||◌, List, [], ◌∷◌, eqb, length, get_or, replicate, Float}
use Rattle.std.specs.Float.{nan}
use Rattle.complex.specs.declared.Complex.{Complex}
use Rattle.complex.specs.Complex.{czero, cone, cnan}
use Rattle.linear_cells.specs.Region.{tab, region, put}
use Rattle.linear_cells.specs.Cell.{get_c, set_c, region_c, put_c}
use Rattle.mesh.specs.Mesh.{Side, side, key, Tri, tri, is_none, index_in}
use Rattle.edges.specs.Table.{sides_in, Held, NumbersOf}
use Rattle.edges.specs.Numbering.{tri_from, tris_from, occurs, Below}
use Rattle.edges.specs.Sides.{times, listed}
use Rattle.pass_boundary.specs.declared.Listing.{Listing}
use Rattle.pass_boundary.specs.declared.Planes.{Planes}
use Rattle.pass_boundary.specs.Boundary.{Mark, once, kept, boundary_sides, marks, sum_from, first_or, normalised, targets_of, firsts_of, flags_of}

-- ---- what stands in the slices

-- the coordinates in a list, by the number of the point
abbrev pub coords : List Float → ℕ → Float
coords xs v = get_or xs v nan

abbrev pub xs_in : Planes → List Float → ℕ → Float
xs_in p w = coords (region nan w p.x p.points)

abbrev pub ys_in : Planes → List Float → ℕ → Float
ys_in p w = coords (region nan w p.y p.points)

-- the sum at a point, which stands where its target will, and the first value there
abbrev pub sum_in : Planes → List Float → ℕ → Complex
sum_in p w v = get_c w p.targets p.points v

abbrev pub first_in : Planes → List Float → ℕ → Complex
first_in p w v = get_c w p.first p.points v

-- the triangles as given, and the sides in the table
abbrev pub tris_in : Listing → List ℕ → List Tri
tris_in l u = tris_from l.corners u l.triangles

abbrev pub table_of : Listing → List ℕ → List Side
table_of l u = sides_in l.table l.buckets u l.sides

-- ---- facts of lengths and offsets

-- in the u32 work: corners and numbers, the table behind both, and then the counts, and a flag for each of n points
pub record ListRoom (l : Listing) (n len : ℕ) : Type 0 where
  pub corners-in : l.corners + 3 * l.triangles ≤ l.table
  pub numbers-in : l.numbers + 3 * l.triangles ≤ l.table
  pub table-in : l.table + l.buckets + 4 * l.sides ≤ l.counts
  pub counts-in : l.counts + l.sides ≤ l.flags
  pub flags-in : l.flags + n ≤ len
  pub narrow : 3 * l.triangles < 2 ^ 32

-- in the f64 work: the coordinates, and behind them the targets, and then the first values
pub record PlaneRoom (p : Planes) (len : ℕ) : Type 0 where
  pub x-in : p.x + p.points ≤ p.targets
  pub y-in : p.y + p.points ≤ p.targets
  pub targets-in : p.targets + 2 * p.points ≤ p.first
  pub first-in : p.first + 2 * p.points ≤ len

-- ---- facts of the data

abbrev pub In : Side → List Side → Type 0
In s l = is_none (index_in s l) ≡ false

-- the three sides of a triangle are among those of a list
abbrev pub AllIn : Tri → List Side → Type 0
AllIn (tri a b c) l = In (key a b) l × (In (key b c) l × In (key c a) l)

-- p, q and r are the numbers of a triangle's sides, in the order of its corners one way round or the other
abbrev pub EitherWay : Tri → List Side → ℕ → ℕ → ℕ → Type 0
EitherWay (tri a b c) l p q r = NumbersOf (tri a b c) l p q r ⊎ NumbersOf (tri a c b) l p q r

-- the corners are points, and the sides of the triangles as given are in the table, by the numbers that are kept for each triangle
pub record Sided (l : Listing) (n : ℕ) (u : List ℕ) : Type 0 where
  pub held : Held l.table l.buckets u l.sides
  pub corners-below : Below n l.corners u (3 * l.triangles)
  pub all_in : (i : ℕ) → i < l.triangles → AllIn (tri_from l.corners u i) (table_of l u)
  pub either_way : (i : ℕ) → i < l.triangles
      → EitherWay (tri_from l.corners u i) (table_of l u) (get_or u (l.numbers + 3 * i) 0) (get_or u (l.numbers + 3 * i + 1) 0) (get_or u (l.numbers + 3 * i + 2) 0)

-- the numbers say how often each side of the table is listed
pub record Numbers (l : Listing) (u : List ℕ) : Type 0 where
  pub numbers-below : Below l.sides l.numbers u (3 * l.triangles)
  pub occur : (k : ℕ) → k < l.sides → occurs k l.numbers u (3 * l.triangles) ≡ times (get_or (table_of l u) k (side 0 0)) (listed (tris_in l u))

-- the counts say it
abbrev pub Counts : Listing → List ℕ → Type 0
Counts l u = (k : ℕ) → k < l.sides → get_or u (l.counts + k) 0 ≡ times (get_or (table_of l u) k (side 0 0)) (listed (tris_in l u))

-- ---- what the functions leave

-- how often each side is listed
unfoldable pub counts_of : List Side → List Tri → ℕ → List ℕ
counts_of ss ts m = tab (λ k. times (get_or ss k (side 0 0)) (listed ts)) m

-- u with them behind the table, and with no flags
unfoldable pub counted : Listing → ℕ → List ℕ → List ℕ
counted l n u = put (put u l.counts (counts_of (table_of l u) (tris_in l u) l.sides)) l.flags (replicate n 0)

-- one of the values is added at v
unfoldable pub is_marked : ℕ → List Mark → Bool
is_marked v [] = false
is_marked v (m ∷ ms) = eqb v m.point || is_marked v ms

-- the values ms are added to the sums, which stand where the targets will: at each point of p the sum and, where it has no flag yet, the first value
-- and the flag. All else is as it was
pub record Added (flags : ℕ) (p : Planes) (ms : List Mark) (u : List ℕ) (w : List Float) (u' : List ℕ) (w' : List Float) : Type 0 where
  pub u-length : length u' ≡ length u
  pub w-length : length w' ≡ length w
  pub sums : (v : ℕ) → v < p.points → sum_in p w' v ≡ sum_from v (sum_in p w v) ms
  pub firsts : (v : ℕ) → v < p.points → first_in p w' v ≡ cond (eqb (get_or u (flags + v) 0) 0) (first_or v (first_in p w v) ms) (first_in p w v)
  pub flagged : (v : ℕ) → v < p.points → get_or u' (flags + v) 0 ≡ cond (is_marked v ms) 1 (get_or u (flags + v) 0)
  pub u-else : (j : ℕ) → (j < flags) ⊎ (flags + p.points ≤ j) → get_or u' j 0 ≡ get_or u j 0
  pub w-else : (j : ℕ) → (j < p.targets) ⊎ (p.first + 2 * p.points ≤ j) → get_or w' j nan ≡ get_or w j nan
  pub w-between : (j : ℕ) → p.targets + 2 * p.points ≤ j → j < p.first → get_or w' j nan ≡ get_or w j nan

-- the sides ss were looked at, and r of them lie on the boundary
pub record Marked (l : Listing) (p : Planes) (ss : List Side) (u : List ℕ) (w : List Float) (u' : List ℕ) (w' : List Float) (r : ℕ) : Type 0 where
  pub added : Added l.flags p (marks (xs_in p w) (ys_in p w) (kept (once (tris_in l u)) ss)) u w u' w'
  pub sides : r ≡ length (kept (once (tris_in l u)) ss)

-- the targets, of flags, first values and sums
unfoldable pub settled_at : ℕ → Complex → Complex → Complex
settled_at flag first sum = cond (eqb flag 1) (normalised sum first) czero

unfoldable pub settled : List ℕ → List Complex → List Complex → List Complex
settled flags firsts sums = tab (λ v. settled_at (get_or flags v 0) (get_or firsts v cnan) (get_or sums v cnan)) (length sums)

-- w with the sum at point v made a target, and with all sums made targets
unfoldable pub settle_c : Planes → ℕ → List ℕ → ℕ → List Float → List Float
settle_c p flags u v w = set_c w p.targets p.points v (settled_at (get_or u (flags + v) 0) (first_in p w v) (sum_in p w v))

unfoldable pub settled_in : Planes → ℕ → List ℕ → List Float → List Float
settled_in p flags u w = put_c w p.targets (settled (region 0 u flags p.points) (region_c w p.first p.points) (region_c w p.targets p.points))

-- w with sums of 0 and first values of 1
unfoldable pub cleared : Planes → List Float → List Float
cleared p w = put_c (put_c w p.targets (replicate p.points czero)) p.first (replicate p.points cone)

-- boundary_targets: how many boundary sides there are, the targets, the first values, the counts and the flags. All else is as it was
pub record Bounded (l : Listing) (p : Planes) (u : List ℕ) (w : List Float) (u' : List ℕ) (w' : List Float) (r : ℕ) : Type 0 where
  pub sides : r ≡ length (boundary_sides (tris_in l u))
  pub reals : w' ≡ put_c (put_c w p.targets (targets_of (xs_in p w) (ys_in p w) (tris_in l u) p.points))
      p.first (firsts_of (xs_in p w) (ys_in p w) (tris_in l u) p.points)
  pub words : u' ≡ put (put u l.counts (counts_of (table_of l u) (tris_in l u) l.sides)) l.flags (flags_of (tris_in l u) p.points)
