-- The claim on the product by vertex (specs/Claim.antt). Assumes nothing.
use mathlib.Core.Path.{◌≡◌, refl, sym, ap, ◌∙◌}
use mathlib.Core.Bool.{Bool, true, false, cond}
use mathlib.Core.List.{List, [], ◌∷◌}
use Prim.Native.Nat.{ℕ, suc, ◌+◌, ◌<◌}
use native.Mathlib.Omega.{arith}
use borrow.Author.Tests.{lt-ltb}
use lib.Dec.{eqb}
use lib.ListN.{length, get_or}
use Rattle.complex.specs.declared.Complex.{Complex}
use Rattle.complex.specs.Complex.{cnan}
use Rattle.linear_cells.proofs.Loops.{get_or-tab}
use Rattle.linear_hermitian.specs.Hermitian.{Matrix, applied}
use Rattle.linear_adjacency.specs.Adjacency.{edges_at, degree, Listed}
use Rattle.linear_adjacency.specs.Incidence.{list_in}
use Rattle.linear_adjacency.proofs.Lists.{start-more, start-below, edges-below}
use Rattle.linear_adjacency.proofs.Incidence.{vertex-lists, list-is, begins}
use Rattle.std.specs.Prelude.{Some}
use Rattle.linear_rows.specs.Rows.{other_end, plus_edges, diagonal_at, row_times, by_vertex}
use Rattle.linear_rows.specs.Vertex.{all_inside, has_list, product_over, vertex_product}
use Rattle.linear_rows.specs.Claim.{Fitting, SameProduct}
use Rattle.linear_rows.proofs.Scatter.{by-vertex}
use Rattle.linear_rows.proofs.Vertex.{inside-all, list_all}

module _ (m : Matrix) (x : List Complex) (f : Fitting m x) (v : ℕ) where
  abbrev A : List ℕ
  A = m.edge_a

  abbrev B : List ℕ
  B = m.edge_b

  other-below : (e : ℕ) → e < length A → other_end A B v e < length x
  unfolding other_end
  other-below e l = pick (eqb (get_or A e 0) v)
    where
      pick : (t : Bool) → cond t (get_or B e 0) (get_or A e 0) < length x
      pick true = f.ends.b-below e l
      pick false = f.ends.a-below e l

  edges-inside : (es : List ℕ) → ((k : ℕ) → k < length es → get_or es k 0 < length A) → all_inside m x v es ≡ true
  unfolding all_inside
  edges-inside [] h = refl
  edges-inside (e ∷ es) h =
      let l : e < length A = h 0 (omega arith) in
      rw (
        inside-all m.off A B x v e l (omega (arith, f.ends.paired)) (omega (arith, f.entries)) (other-below e l),
        edges-inside es (λ k g. h (suc k) (omega arith)),
      )

  module _ (l : List ℕ) (h : Listed A B (length x) l 0) (lv : v < length x) where
    list-there : has_list l (length m.diagonal) v ≡ true
    list-there =
        let b = begins (length x) A B l f.ends h in
        list_all l (length m.diagonal) v (omega (arith, f.rows))
        (omega (arith, b v (omega arith), b (v + 1) (omega arith), start-more A B (length A) v))
        (omega (arith, f.rows, b (v + 1) (omega arith), start-more A B (length A) v, start-below A B (length A) (length x) v lv, h.room))

    row_at : get_or (applied m x) v cnan ≡ plus_edges m x v (edges_at A B v (length A)) (diagonal_at m x v)
    unfolding by_vertex row_times
    row_at = ap (λ t. get_or t v cnan) (by-vertex m x f.ends.different) ∙ get_or-tab _ (length x) v cnan lv

    pub vertex-at : vertex_product m x l v ≡ Some (get_or (applied m x) v cnan)
    unfolding vertex_product product_over
    vertex-at =
        let same : list_in l (length m.diagonal) v ≡ edges_at A B v (length A) = rw f.rows (list-is (length x) A B l f.ends h v lv) in
        let all : all_inside m x v (edges_at A B v (length A)) ≡ true = edges-inside (edges_at A B v (length A)) (λ k g. edges-below A B v (length A) k (unfold degree in g)) in
        rw (list-there, lt-ltb v (length x) lv, same, all) (ap Some (sym row_at))

pub same-product : SameProduct
same-product = record {
  engine = λ m x g. sym (by-vertex m x g.different);
  vertex = λ m x f l l' q v lv. vertex-at m x f v l' (vertex-lists (length x) m.edge_a m.edge_b l l' q).1 lv;
}
