-- How a work slice holds a matrix, what the functions require of it, and the iterations of their loops on the flat list.
use Rattle.std.specs.Prelude.{◌≡◌, List, ℕ, ◌+◌, ◌*◌, ◌≤◌, ◌<◌, length, get_or, Float}
use Rattle.std.specs.Float.{nan}
use Rattle.float.specs.Double.{◌⊕◌, ◌⊗◌}
use Rattle.complex.specs.declared.Complex.{Complex}
use Rattle.complex.specs.Complex.{cadd, cmul, cconj}
use Rattle.linear_cells.specs.Region.{region, put, Apart}
use Rattle.linear_cells.specs.Cell.{get_c, set_c, region_c, put_c}
use Rattle.linear_hermitian.specs.declared.Ends.{Ends}
use Rattle.linear_hermitian.specs.declared.Hermitian.{Hermitian}
use Rattle.linear_hermitian.specs.Hermitian.{Matrix, shifted_diagonal, shifted_off}

unfoldable pub matrix : List Float → Hermitian → List ℕ → List ℕ → Matrix
matrix w h a b = record { diagonal = region nan w h.diagonal h.size; off = region_c w h.off h.edges; edge_a = a; edge_b = b }

-- w with the matrix at h shifted
unfoldable pub shift_matrix : List Float → Hermitian → Float → Hermitian → List Float
shift_matrix w h shift mass =
    put_c
    (put w h.diagonal (shifted_diagonal shift (region nan w mass.diagonal h.size) (region nan w h.diagonal h.size)))
    h.off
    (shifted_off shift (region_c w mass.off h.edges) (region_c w h.off h.edges))

-- ---- facts of the data: the edges, of two different ends each, within the vector

abbrev pub Below : ℕ → List ℕ → Type 0
Below n xs = (k : ℕ) → k < length xs → get_or xs k 0 < n

pub record Graph (h : Hermitian) (a b : List ℕ) : Type 0 where
  pub all-a : length a ≡ h.edges
  pub all-b : length b ≡ h.edges
  pub a-below : Below h.size a
  pub b-below : Below h.size b
  pub different : (e : ℕ) → e < length a → get_or a e 0 ≡ get_or b e 0 → ⊥

-- ---- facts of lengths and offsets: `omega (arith, apart)` proves each of these records

pub record ScaleRoom (len diagonal x y n : ℕ) : Type 0 where
  pub diagonal-in : diagonal + n ≤ len
  pub x-in : x + 2 * n ≤ len
  pub y-in : y + 2 * n ≤ len
  pub y-diagonal : Apart y (2 * n) diagonal n
  pub y-x : Apart y (2 * n) x (2 * n)

pub record EdgesRoom (len off x y n m : ℕ) : Type 0 where
  pub off-in : off + 2 * m ≤ len
  pub x-in : x + 2 * n ≤ len
  pub y-in : y + 2 * n ≤ len
  pub y-off : Apart y (2 * n) off (2 * m)
  pub y-x : Apart y (2 * n) x (2 * n)

pub record ApplyRoom (len : ℕ) (h : Hermitian) (x y : ℕ) : Type 0 where
  pub diagonal-in : h.diagonal + h.size ≤ len
  pub y-diagonal : Apart y (2 * h.size) h.diagonal h.size
  pub edges_room : EdgesRoom len h.off x y h.size h.edges

-- two regions of n elements, of which one is written
pub record PairRoom (len x y n : ℕ) : Type 0 where
  pub x-in : x + n ≤ len
  pub y-in : y + n ≤ len
  pub y-x : Apart y n x n

-- a matrix that is written, and one that is read
pub record ShiftRoom (len : ℕ) (h mass : Hermitian) : Type 0 where
  pub one_size : mass.size ≡ h.size
  pub one-graph : mass.edges ≡ h.edges
  pub diagonals : PairRoom len mass.diagonal h.diagonal h.size
  pub offs : PairRoom len mass.off h.off (2 * h.edges)
  pub diagonal-off : Apart h.diagonal h.size h.off (2 * h.edges)
  pub diagonal-mass : Apart h.diagonal h.size mass.off (2 * h.edges)

-- where one edge's iteration reads and writes
pub record EdgeIn (len y x off n m e a b : ℕ) : Type 0 where
  pub e-in : e < m
  pub a_in : a < n
  pub b-in : b < n
  pub off-in : off + m + e < len
  pub xa-in : x + n + a < len
  pub xb-in : x + n + b < len
  pub ya-in : y + n + a < len
  pub yb-in : y + n + b < len

-- ---- iterations

-- the real part of conj u * v
unfoldable pub re_term : Complex → Complex → Float
re_term u v = u.re ⊗ v.re ⊕ u.im ⊗ v.im

-- edge e of m, with ends a and b: the two cells that it changes, and w with them
unfoldable pub ends_c : List Float → ℕ → ℕ → ℕ → ℕ → ℕ → ℕ → ℕ → ℕ → Ends
ends_c w y x off n m e a b = record {
  a = cadd (get_c w y n a) (cmul (get_c w off m e) (get_c w x n b));
  b = cadd (get_c w y n b) (cmul (cconj (get_c w off m e)) (get_c w x n a));
}

unfoldable pub edge_c : List Float → ℕ → ℕ → ℕ → ℕ → ℕ → ℕ → ℕ → ℕ → List Float
edge_c w y x off n m e a b = set_c (set_c w y n a (ends_c w y x off n m e a b).a) y n b (ends_c w y x off n m e a b).b
