-- `linear_packing::mark_at` meets its contract: each return rewrites the definition by the calls on its way; the laws are in proofs/Making.
use native.Mathlib.Omega.{arith}
use Rattle.linear_packing.proofs.Making.{number-narrow, number-made}
use Rattle.linear_packing.proofs.mark_at.Goals as goal

pub mark_or_end-m-requires : goal.mark_or_end-m-requires
mark_or_end-m-requires c = c.requires

pub store_number-requires : goal.store_number-requires
store_number-requires c =
    let room = c.requires.0.started.room in
    (omega (arith, c.requires.1, room.behind, room.neighbours-in, room.halves_in, room.from_in, room.to_in, room.marks-in, room.small), number-narrow _ _ _ _ c.requires.0.started c.requires.1 c.mark_or_end-m.ensures)

pub returns : goal.returns
returns c =
    number-made c.args.u.now c.args.copy c.args.source c.args.v c.mark_or_end-m.ensures c.store_number.ensures
