-- The product at one vertex, on any slices: `lent::vertex_product`. A complex number is a pair re, im in a slice. Definitions only.
use Rattle.std.specs.Prelude.{ℕ, ◌+◌, ◌*◌, ◌/◌, Bool, true, cond, ◌&&◌, List, [], ◌∷◌, ltb, leb, eqb, length, get_or, Option, Some, None, Float}
use Rattle.std.specs.Float.{nan}
use Rattle.complex.specs.declared.Complex.{Complex}
use Rattle.complex.specs.Complex.{cnan, cmul, cconj}
use Rattle.linear_cells.specs.Region.{tab}
use Rattle.linear_hermitian.specs.Hermitian.{Matrix}
use Rattle.linear_adjacency.specs.Incidence.{list_in}
use Rattle.linear_rows.specs.Rows.{other_end, plus_edges, diagonal_at}

-- ---- what is lent

-- the complex numbers of a slice of pairs. An odd last number is not read
unfoldable pub pairs_of : List Float → List Complex
pairs_of z = tab (λ i. record { re = get_or z (2 * i) nan; im = get_or z (2 * i + 1) nan }) (length z / 2)

abbrev pub lent_matrix : List Float → List Float → List ℕ → List ℕ → Matrix
lent_matrix diagonal off from to = record { diagonal = diagonal; off = pairs_of off; edge_a = from; edge_b = to }

-- ---- what is tested, so that every index lies within its slice

-- `lent::is_inside`: e is an edge, and its other end, seen from v, is within the vector
unfoldable pub is_inside : List Complex → List ℕ → List ℕ → List Complex → ℕ → ℕ → Bool
is_inside off from to x v e = ltb e (length from) && (ltb e (length to) && (ltb e (length off) && ltb (other_end from to v e) (length x)))

unfoldable pub all_inside : Matrix → List Complex → ℕ → List ℕ → Bool
all_inside m x v [] = true
all_inside m x v (e ∷ es) = is_inside m.off m.edge_a m.edge_b x v e && all_inside m x v es

-- `lent::has_list`: v is one of n vertices, and its list lies within the slice
unfoldable pub has_list : List ℕ → ℕ → ℕ → Bool
has_list l n v = ltb v n && (leb (get_or l v 0) (get_or l (v + 1) 0) && leb (n + 1 + get_or l (v + 1) 0) (length l))

-- ---- the product

-- `lent::entry_at`: the entry of edge e in v's row
unfoldable pub entry_of : List Complex → List ℕ → ℕ → ℕ → Complex
entry_of off from v e = cond (eqb (get_or from e 0) v) (get_or off e cnan) (cconj (get_or off e cnan))

-- `lent::term`: what edge e adds there, as `plus_edge` has it
unfoldable pub term_of : List Complex → List ℕ → List ℕ → List Complex → ℕ → ℕ → Complex
term_of off from to x v e = cmul (entry_of off from v e) (get_or x (other_end from to v e) cnan)

-- `lent::product_over`: the diagonal's term and those of the edges es, from the left
unfoldable pub product_over : Matrix → List Complex → ℕ → List ℕ → Option Complex
product_over m x v es = cond (all_inside m x v es) (Some (plus_edges m x v es (diagonal_at m x v))) None

-- `lent::vertex_product`
unfoldable pub vertex_product : Matrix → List Complex → List ℕ → ℕ → Option Complex
vertex_product m x l v = cond (has_list l (length m.diagonal) v && ltb v (length x)) (product_over m x v (list_in l (length m.diagonal) v)) None
