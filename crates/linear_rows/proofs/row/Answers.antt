-- `linear_rows::row` meets its contract: each return rewrites the definition by the calls on its way; the laws are in proofs/Loops.
use native.Mathlib.Omega.{arith}
use Rattle.linear_rows.proofs.Loops.{held, row-all}
use borrow.Author.Rules.{rules}
use Rattle.linear_rows.proofs.row.Goals as goal

pub overflow_add-at-4 : goal.overflow_add-at-4
overflow_add-at-4 c =
    omega (arith, held _ _ _ _ _ c.requires.listed _ c.requires.v_lt_size _ _ c.wide-begin.ensures c.wide-end.ensures _ c.requires.graph.all-a)

pub overflow_sub-end : goal.overflow_sub-end
overflow_sub-end c =
    omega (arith, held _ _ _ _ _ c.requires.listed _ c.requires.v_lt_size _ _ c.wide-begin.ensures c.wide-end.ensures _ c.requires.graph.all-a)

pub plus_edges-requires : goal.plus_edges-requires
plus_edges-requires c =
    let p = held _ _ _ _ _ c.requires.listed _ c.requires.v_lt_size _ _ c.wide-begin.ensures c.wide-end.ensures _ c.requires.graph.all-a in record { row_room = search rules; graph = search rules; count_in_bounds = (p.room, p.below) }

pub returns : goal.returns
returns c =
    row-all _ _ _ _ _ _ _ _ c.requires.listed c.requires.v_lt_size c.wide-begin.ensures c.wide-end.ensures c.diagonal_term-first.ensures c.plus_edges.ensures
