-- What is claimed of the product by vertex. Definitions only.
use Rattle.std.specs.Prelude.{ℕ, ◌<◌, ◌≡◌, true, List, length, get_or, Some}
use Rattle.complex.specs.declared.Complex.{Complex}
use Rattle.complex.specs.Complex.{cnan}
use Rattle.linear_hermitian.specs.Hermitian.{Matrix, applied}
use Rattle.linear_adjacency.specs.Adjacency.{Ends}
use Rattle.linear_adjacency.specs.Incidence.{VertexLists}
use Rattle.linear_rows.specs.Rows.{by_vertex}
use Rattle.linear_rows.specs.Vertex.{vertex_product}

-- a matrix whose edges have two different ends within the vector, and that has a number for each row and for each edge
pub record Fitting (m : Matrix) (x : List Complex) : Type 0 where
  pub ends : Ends (length x) m.edge_a m.edge_b
  pub rows : length m.diagonal ≡ length x
  pub entries : length m.off ≡ length m.edge_a

-- document 02's words: the product by vertex equals the present one bit for bit on every vector and every matrix whose edges have two different ends within the vector
pub record SameProduct : Type 0 where
  pub engine : (m : Matrix) (x : List Complex) → Ends (length x) m.edge_a m.edge_b → by_vertex m x ≡ applied m x
  -- and so does what the call for one vertex gives, over lists that the call for them made of l
  pub vertex : (m : Matrix) (x : List Complex) → Fitting m x → (l l' : List ℕ) → VertexLists (length x) m.edge_a m.edge_b l l' true
      → (v : ℕ) → v < length x → vertex_product m x l' v ≡ Some (get_or (applied m x) v cnan)
