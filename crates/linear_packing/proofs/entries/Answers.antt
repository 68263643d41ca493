-- `linear_packing::entries` meets its contract: the loop keeps what `Inv-loop` says, and what is left to do falls at each iteration; the laws are in proofs/Making.
use mathlib.Core.Path.{◌∙◌, ap}
use native.Mathlib.Omega.{arith}
use lib.ListN.{length}
use Rattle.linear_cells.proofs.Cells.{length-put_c}
use Rattle.linear_packing.proofs.Making.{entries-room, entries_none, entries-again, entries-done}
use Rattle.linear_packing.proofs.entries.Goals as goal

pub loop-k-init : goal.loop-k-init
loop-k-init c = (omega arith, omega arith, omega arith, entries_none _ _ _ _ _)

pub entry_at-requires : goal.entry_at-requires
entry_at-requires c = record { interleaved = (c.requires.interleaved, omega arith); entries_room = entries-room c.loop-k.invariant.2 c.requires.entries_room }

pub loop-k-preserved : goal.loop-k-preserved
loop-k-preserved c =
    let q = entries-again _ _ _ _ _ c.requires.interleaved c.requires.entries_room c.loop-k.k (omega arith) c.loop-k.invariant.3 c.entry_at.ensures in
    (c.loop-k.invariant.0, omega arith, ap length q ∙ length-put_c _ _ _, q)

pub returns : goal.returns
returns c =
    entries-done _ _ _ _ _ c.requires.interleaved c.requires.entries_room c.loop-k.invariant.0 (omega arith) (omega arith) c.loop-k.invariant.3
