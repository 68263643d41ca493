-- `linear_adjacency::lent::count` meets its contract: the loop keeps what `Inv-loop` says, and what is left to do falls at each iteration; the laws are in proofs/Counting.
use mathlib.Core.Path.{◌∙◌, ap}
use native.Mathlib.Omega.{arith}
use lib.ListN.{length}
use Rattle.linear_cells.proofs.Regions.{length-put}
use Rattle.linear_adjacency.proofs.Counting.{count_none, count-in, count-again, count-done}
use Rattle.linear_adjacency.proofs.lent.count.Goals as goal

pub loop-e-init : goal.loop-e-init
loop-e-init c = (omega arith, omega arith, omega arith, count_none _ _ _ _ _ c.requires.n_value)

pub overflow_add-at : goal.overflow_add-at
overflow_add-at c =
    omega (arith, c.requires.list_room.room, c.requires.ends.a-below c.loop-e.e (omega arith), c.wide-a.ensures)

pub overflow_add-at-in-loop-e : goal.overflow_add-at-in-loop-e
overflow_add-at-in-loop-e c =
    omega (arith, c.requires.list_room.room, c.requires.ends.b-below c.loop-e.e (omega arith), c.wide-b.ensures)

pub count_edge-requires : goal.count_edge-requires
count_edge-requires c =
    count-in _ _ _ _ _ c.requires.list_room c.requires.ends c.loop-e.e (omega arith) c.loop-e.invariant.3 c.wide-a.ensures c.wide-b.ensures

pub loop-e-preserved : goal.loop-e-preserved
loop-e-preserved c =
    let q = count-again _ _ _ _ _ c.requires.list_room c.requires.ends c.loop-e.e (omega arith) c.loop-e.invariant.3 c.wide-a.ensures
    c.wide-b.ensures c.count_edge.ensures in
    (omega arith, omega arith, ap length q ∙ length-put _ _ _, q)

pub returns : goal.returns
returns c = count-done _ _ _ _ _ c.loop-e.invariant.0 c.loop-e.invariant.1 c.loop-e-test.false c.loop-e.invariant.3
