-- The Rust's `dot`, `euclidean_norm` and `Hermitian`, over lists of complex numbers: every operation rounded once, in its order. Definitions only.
use Rattle.std.specs.Prelude.{ℕ, List, length, get_or, set, Float}
use Rattle.std.specs.Float.{nan}
use Rattle.float.specs.Double.{lit, max_of, ◌⊕◌, ◌⊗◌}
use Rattle.root.specs.Root.{root_of}
use Rattle.complex.specs.declared.Complex.{Complex}
use Rattle.complex.specs.Complex.{czero, cnan, cadd, cmul, cscale, cconj}
use Rattle.linear_cells.specs.Iter.{iter}
use Rattle.linear_cells.specs.Region.{tab}

-- the sum over i of conj (u i) * v i, from the left
unfoldable pub dot_step : List Complex → List Complex → ℕ → Complex → Complex
dot_step u v i s = cadd s (cmul (cconj (get_or u i cnan)) (get_or v i cnan))

unfoldable pub dot_of : List Complex → List Complex → Complex
dot_of u v = iter (dot_step u v) (length u) czero

-- `max` passes a NaN over, so that a vector with a NaN has norm 0
unfoldable pub vector_norm : List Complex → Float
vector_norm v = root_of (max_of (dot_of v v).re (lit 0))

-- ---- the matrix: a real diagonal, and one complex entry an edge. Entry (a, b) of edge e is off e, and entry (b, a) its conjugate

pub record Matrix : Type 0 where
  pub diagonal : List Float
  pub off : List Complex
  pub edge_a : List ℕ
  pub edge_b : List ℕ

-- x i * d i at each i
unfoldable pub scaled : List Float → List Complex → List Complex
scaled d x = tab (λ i. cscale (get_or x i cnan) (get_or d i nan)) (length x)

-- y with z added to its element i
unfoldable pub add_at : List Complex → ℕ → Complex → List Complex
add_at y i z = set y i (cadd (get_or y i cnan) z)

-- edge e, with ends a and b and entry o: o * x b is added at a, and then conj o * x a at b
unfoldable pub edge_step : Matrix → List Complex → ℕ → List Complex → List Complex
edge_step m x e y =
    add_at
    (add_at y (get_or m.edge_a e 0) (cmul (get_or m.off e cnan) (get_or x (get_or m.edge_b e 0) cnan)))
    (get_or m.edge_b e 0)
    (cmul (cconj (get_or m.off e cnan)) (get_or x (get_or m.edge_a e 0) cnan))

-- the edges in their order, from y
unfoldable pub edged : Matrix → List Complex → List Complex → List Complex
edged m x y = iter (edge_step m x) (length m.edge_a) y

-- the matrix times x: the diagonal first
unfoldable pub applied : Matrix → List Complex → List Complex
applied m x = edged m x (scaled m.diagonal x)

-- the diagonal and the entries of m + shift * mass, where both have one edge list
unfoldable pub shifted_diagonal : Float → List Float → List Float → List Float
shifted_diagonal shift mass d = tab (λ i. get_or d i nan ⊕ shift ⊗ get_or mass i nan) (length d)

unfoldable pub shifted_off : Float → List Complex → List Complex → List Complex
shifted_off shift mass off = tab (λ e. cadd (get_or off e cnan) (cscale (get_or mass e cnan) shift)) (length off)

unfoldable pub shifted_by : Float → Matrix → Matrix → Matrix
shifted_by shift mass m = record {
  diagonal = shifted_diagonal shift mass.diagonal m.diagonal;
  off = shifted_off shift mass.off m.off;
  edge_a = m.edge_a;
  edge_b = m.edge_b;
}

-- the sum of a diagonal from the left. It starts at -0, as the Rust's `sum` does
unfoldable pub trace_step : List Float → ℕ → Float → Float
trace_step d i s = s ⊕ get_or d i nan

unfoldable pub trace_of : List Float → Float
trace_of d = iter (trace_step d) (length d) (lit 0x8000_0000_0000_0000)
