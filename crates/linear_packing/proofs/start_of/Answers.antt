-- `linear_packing::start_of` meets its contract: each return rewrites the definition by the calls on its way; the laws are in proofs/Interleaving.
use mathlib.Core.Path.{◌∙◌}
use native.Mathlib.Omega.{arith}
use Rattle.linear_packing.proofs.Interleaving.{start-last}
use Rattle.linear_packing.proofs.start_of.Goals as goal

pub load_number-requires : goal.load_number-requires
load_number-requires c =
    let room = c.requires.0.room in
    omega (arith, c.if-v-copy.true, room.behind, room.neighbours-in, room.halves_in, room.from_in, room.to_in, room.marks-in, room.small)

pub returns-then-v-copy : goal.returns-then-v-copy
returns-then-v-copy c = c.load_number.ensures ∙ c.requires.0.starts _ c.if-v-copy.true

pub load_number-requires-2 : goal.load_number-requires-2
load_number-requires-2 c =
    let room = c.requires.0.room in
    omega (arith, room.behind, room.neighbours-in, room.halves_in, room.from_in, room.to_in, room.marks-in, room.small)

pub returns : goal.returns
returns c =
    start-last _ _ _ c.requires.0 c.requires.1 c.if-v-copy.false c.load_number-2.ensures
