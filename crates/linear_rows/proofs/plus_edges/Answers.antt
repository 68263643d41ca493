-- `linear_rows::plus_edges` meets its contract: the loop keeps what `Inv-loop` says, and what is left to do falls at each iteration; the laws are in proofs/Loops.
use Rattle.linear_rows.proofs.Loops.{plus_none, plus-again, plus-done}
use native.Mathlib.Omega.{arith}
use borrow.Author.Rules.{rules}
use Rattle.linear_rows.proofs.plus_edges.Goals as goal

pub loop-k-init : goal.loop-k-init
loop-k-init c = search (plus_none, rules)

pub plus_edge-sum-requires : goal.plus_edge-sum-requires
plus_edge-sum-requires c = record { row_room = search rules; graph = search rules; e_lt_edges = omega (arith, c.requires.count_in_bounds.1 c.loop-k.k (omega arith)) }

pub loop-k-preserved : goal.loop-k-preserved
loop-k-preserved c = (omega arith, plus-again _ _ _ _ _ _ _ _ _ _ c.loop-k.invariant.1 c.wide.ensures c.plus_edge-sum.ensures)

pub returns : goal.returns
returns c = search plus-done
