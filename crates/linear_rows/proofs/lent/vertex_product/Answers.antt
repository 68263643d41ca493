-- `linear_rows::lent::vertex_product` meets its contract: each return opens the definition and rewrites it by the tests and the calls on its way; the laws are in proofs/Vertex.
use mathlib.Core.Path.{refl, sym, ◌∙◌}
use native.Mathlib.Omega.{arith}
use Rattle.linear_rows.proofs.Vertex.{list-parts, vertex-no-list, vertex-past, vertex-is}
use Rattle.linear_rows.proofs.lent.vertex_product.Goals as goal

pub returns-then-not-has_list : goal.returns-then-not-has_list
returns-then-not-has_list c = vertex-no-list _ _ _ _ _ _ _ c.has_list.ensures c.if-not-has_list.true

pub returns-then-v-x : goal.returns-then-v-x
returns-then-v-x c = vertex-past _ _ _ _ _ _ _ c.has_list.ensures c.if-not-has_list.false c.if-v-x.true

pub bounds-lists-v : goal.bounds-lists-v
bounds-lists-v c = let p = list-parts _ _ _ (sym c.has_list.ensures ∙ c.if-not-has_list.false) in omega (arith, p.0, p.2)

pub overflow_add-v : goal.overflow_add-v
overflow_add-v c = let p = list-parts _ _ _ (sym c.has_list.ensures ∙ c.if-not-has_list.false) in omega (arith, p.0, p.2)

pub bounds-lists-v-2 : goal.bounds-lists-v-2
bounds-lists-v-2 c = let p = list-parts _ _ _ (sym c.has_list.ensures ∙ c.if-not-has_list.false) in omega (arith, p.0, p.2)

pub overflow_add-n-2 : goal.overflow_add-n-2
overflow_add-n-2 c = let p = list-parts _ _ _ (sym c.has_list.ensures ∙ c.if-not-has_list.false) in omega (arith, p.1, p.2, c.wide-begin.ensures)

pub overflow_sub-end : goal.overflow_sub-end
overflow_sub-end c = let p = list-parts _ _ _ (sym c.has_list.ensures ∙ c.if-not-has_list.false) in omega (arith, p.1, c.wide-begin.ensures, c.wide-end.ensures)

pub product_over-requires : goal.product_over-requires
product_over-requires c =
    let p = list-parts _ _ _ (sym c.has_list.ensures ∙ c.if-not-has_list.false) in
    (omega (arith, p.1, p.2, c.wide-begin.ensures, c.wide-end.ensures), p.0, c.if-v-x.false)

pub returns : goal.returns
returns c =
    vertex-is _ _ _ _ _ _ _ c.has_list.ensures c.if-not-has_list.false c.if-v-x.false refl c.wide-begin.ensures c.wide-end.ensures c.product_over.ensures
