-- `linear_packing::slot_at` meets its contract: each return rewrites the definition by the calls on its way; the laws are in proofs/Interleaving.
use native.Mathlib.Omega.{arith}
use Rattle.linear_packing.proofs.Interleaving.{slot-narrow}
use Rattle.linear_packing.proofs.slot_at.Goals as goal

pub slot-half-requires : goal.slot-half-requires
slot-half-requires c = record { laid = c.requires.laid; slot_in = c.requires.slot_in.0 }

pub overflow_add-source : goal.overflow_add-source
overflow_add-source c =
    let room = c.requires.laid.room in
    omega (arith, c.requires.slot_in.1, room.halves_in, room.from_in, room.to_in, room.marks-in, room.small)

pub store_number-requires : goal.store_number-requires
store_number-requires c =
    let room = c.requires.laid.room in
    (omega (arith, c.requires.slot_in.1, room.halves_in, room.from_in, room.to_in, room.marks-in), slot-narrow _ _ _ c.requires.laid _ _ _ _ c.requires.slot_in.0 c.slot-half.ensures)

pub returns : goal.returns
returns c = cc
