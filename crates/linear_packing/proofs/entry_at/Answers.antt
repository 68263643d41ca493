-- `linear_packing::entry_at` meets its contract: each return rewrites the definition by the calls on its way; the laws are in proofs/Making.
use native.Mathlib.Omega.{arith}
use Rattle.linear_packing.proofs.Making.{half_in, entry-made}
use Rattle.linear_packing.proofs.entry_at.Goals as goal

pub load_number-half-requires : goal.load_number-half-requires
load_number-half-requires c =
    let room = c.requires.interleaved.0.room in
    omega (arith, c.requires.interleaved.1, room.behind, room.neighbours-in, room.halves_in, room.from_in, room.to_in, room.marks-in, room.small)

pub half_entry-z-requires : goal.half_entry-z-requires
half_entry-z-requires c =
    (omega (arith, half_in _ _ _ c.requires.interleaved.0 _ c.requires.interleaved.1 c.load_number-half.ensures, c.requires.entries_room.one-graph), c.requires.entries_room.off-in)

pub store-requires : goal.store-requires
store-requires c =
    (c.requires.interleaved.1, omega (arith, c.requires.interleaved.1, c.requires.entries_room.entries-in))

pub returns : goal.returns
returns c =
    entry-made _ _ c.args.h _ _ c.requires.interleaved.0 _ c.requires.interleaved.1 c.load_number-half.ensures
    c.half_entry-z.ensures c.store.ensures
