-- `linear_packing::neighbour_at` meets its contract: each return rewrites the definition by the calls on its way; the laws are in proofs/Making.
use native.Mathlib.Omega.{arith}
use Rattle.linear_packing.proofs.Making.{half_in, neighbour-narrow, neighbour-made}
use Rattle.linear_packing.proofs.neighbour_at.Goals as goal

pub load_number-half-requires : goal.load_number-half-requires
load_number-half-requires c =
    let room = c.requires.0.room in
    omega (arith, c.requires.1, room.behind, room.neighbours-in, room.halves_in, room.from_in, room.to_in, room.marks-in, room.small)

pub neighbour_of-j-requires : goal.neighbour_of-j-requires
neighbour_of-j-requires c =
    let room = c.requires.0.room in (
      half_in _ _ _ c.requires.0 _ c.requires.1 c.load_number-half.ensures,
      omega (arith, room.behind, room.neighbours-in, room.halves_in, room.from_in, room.to_in, room.marks-in, room.small),
      omega (arith, room.behind, room.neighbours-in, room.halves_in, room.from_in, room.to_in, room.marks-in, room.small),
    )

pub store_number-requires : goal.store_number-requires
store_number-requires c =
    let room = c.requires.0.room in (
      omega (arith, c.requires.1, room.behind, room.neighbours-in, room.halves_in, room.from_in, room.to_in, room.marks-in, room.small),
      neighbour-narrow _ _ _ c.requires.0 _ c.requires.1 c.load_number-half.ensures c.neighbour_of-j.ensures,
    )

pub returns : goal.returns
returns c =
    neighbour-made _ _ _ c.requires.0 _ c.requires.1 c.load_number-half.ensures c.neighbour_of-j.ensures
    c.store_number.ensures
