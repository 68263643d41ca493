-- What the call for the lists answers, from what linear_adjacency::lent::vertex_lists does. Assumes nothing.
use Prim.Native.Nat.{ℕ}
use mathlib.Core.Path.{◌≡◌, sym, ◌∙◌}
use mathlib.Core.Bool.{Bool, true, false}
use mathlib.Core.List.{List}
use native.Mathlib.Omega.{arith}
use Rattle.linear_adjacency.specs.Incidence.{VertexLists}
use Rattle.linear_adjacency.proofs.Incidence.{vertex-lists}
use Rattle.godf.specs.Product.{ListsTold}

module _ (n : ℕ) (from to l l' : List ℕ) {r : Bool} (q : VertexLists n from to l l' r) where
  pub lists-made : r ≡ true → ListsTold n from to l 0 l'
  lists-made t = record { number = rw (sym q.made ∙ t); exit = q.lists; incidence = λ h. (vertex-lists n from to l l' (rw t at q)).2 }

  pub lists-refused : r ≡ false → ListsTold n from to l 1 l'
  lists-refused t = record { number = rw (sym q.made ∙ t); exit = q.lists; incidence = λ h. absurd (omega arith) }
