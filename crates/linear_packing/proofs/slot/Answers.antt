-- `linear_packing::slot` meets its contract: each return rewrites the definition by the calls on its way; the laws are in proofs/Interleaving.
use native.Mathlib.Omega.{arith}
use Rattle.linear_packing.proofs.Interleaving.{row_in, small, list-in, edge_in, slot_is}
use Rattle.linear_packing.proofs.slot.Goals as goal

pub row_of-row-requires : goal.row_of-row-requires
row_of-row-requires c =
    let room = c.requires.laid.room in
    (omega (arith, small _ _ _ c.requires.laid _ _ _ _ c.requires.slot_in, room.narrow), omega (arith, c.requires.slot_in.v-in, room.few))

pub entry_of-c-requires : goal.entry_of-c-requires
entry_of-c-requires c = omega (arith, small _ _ _ c.requires.laid _ _ _ _ c.requires.slot_in, c.requires.laid.room.narrow)

pub load_number-k-requires : goal.load_number-k-requires
load_number-k-requires c =
    let room = c.requires.laid.room in
    omega (arith, row_in _ _ _ c.requires.laid _ _ _ _ c.requires.slot_in, c.row_of-row.ensures, room.behind, room.neighbours-in, room.halves_in, room.from_in, room.to_in, room.marks-in)

pub overflow_add-k : goal.overflow_add-k
overflow_add-k c =
    omega (arith, list-in _ _ _ c.requires.laid _ _ _ _ c.requires.slot_in c.row_of-row.ensures c.entry_of-c.ensures c.load_number-k.ensures, c.requires.laid.room.narrow)

pub load_number-e-requires : goal.load_number-e-requires
load_number-e-requires c =
    let room = c.requires.laid.room in
    omega (
      arith,
      list-in _ _ _ c.requires.laid _ _ _ _ c.requires.slot_in c.row_of-row.ensures c.entry_of-c.ensures c.load_number-k.ensures,
      room.neighbours-in,
      room.halves_in,
      room.from_in,
      room.to_in,
      room.marks-in,
    )

pub load_number-requires : goal.load_number-requires
load_number-requires c =
    let room = c.requires.laid.room in
    omega (
      arith,
      edge_in _ _ _ c.requires.laid _ _ _ _ c.requires.slot_in c.row_of-row.ensures c.entry_of-c.ensures c.load_number-k.ensures
          c.load_number-e.ensures,
      room.from_in,
      room.to_in,
      room.marks-in,
    )

pub half_of-requires : goal.half_of-requires
half_of-requires c =
    let room = c.requires.laid.room in
    omega (
      arith,
      edge_in _ _ _ c.requires.laid _ _ _ _ c.requires.slot_in c.row_of-row.ensures c.entry_of-c.ensures
          c.load_number-k.ensures c.load_number-e.ensures,
      room.all,
      room.narrow,
    )

pub returns : goal.returns
returns c =
    slot_is _ _ _ c.requires.laid _ _ _ _ c.requires.slot_in c.row_of-row.ensures c.entry_of-c.ensures
    c.load_number-k.ensures c.load_number-e.ensures c.load_number.ensures c.half_of.ensures
