-- `linear_adjacency::lent::fill` meets its contract: the loop keeps what `Inv-loop` says, and what is left to do falls at each iteration; the laws are in proofs/Filling.
use mathlib.Core.Path.{◌∙◌, ap}
use native.Mathlib.Omega.{arith}
use lib.ListN.{length}
use Rattle.linear_adjacency.proofs.Filling.{length-fill_to, fill_none, fill-both, fill-again, fill_done}
use Rattle.linear_adjacency.proofs.lent.fill.Goals as goal

pub loop-e-init : goal.loop-e-init
loop-e-init c = (omega arith, omega arith, fill_none _ _ _ c.requires.ends _ _ c.requires.list_room c.requires.n_value)

pub place_edge-requires : goal.place_edge-requires
place_edge-requires c =
    fill-both _ _ _ c.requires.ends _ _ c.requires.list_room c.loop-e.e (omega arith) (omega arith) c.loop-e.invariant.2 c.wide-a.ensures c.wide-b.ensures

pub loop-e-preserved : goal.loop-e-preserved
loop-e-preserved c =
    let q = fill-again _ _ _ c.requires.ends _ _ c.requires.list_room c.loop-e.e (omega arith) (omega arith) c.loop-e.invariant.2 c.wide-a.ensures
    c.wide-b.ensures c.place_edge.ensures in
    (omega arith, ap length q ∙ length-fill_to _ _ _ c.requires.ends _ _ c.requires.list_room _, q)

pub returns : goal.returns
returns c =
    fill_done _ _ _ c.requires.ends _ _ c.requires.list_room (omega arith) c.loop-e.invariant.2
