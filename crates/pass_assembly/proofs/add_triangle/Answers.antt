-- `pass_assembly::add_triangle` meets its contract: the calls' contracts, one after the other; the laws are in proofs/Rounds and proofs/Floors.
use Rattle.pass_assembly.proofs.Floors.{terms-in, both-within}
use Rattle.pass_assembly.proofs.Rounds.{triangle-all}
use Rattle.pass_assembly.proofs.add_triangle.Goals as goal

pub terms_at-z-requires : goal.terms_at-z-requires
terms_at-z-requires c = record { terms_in = terms-in _ _ _ c.requires.assembly_room.0 _ c.requires.assembly_room.1; within = both-within _ _ c.requires.indexed c.requires.assembly_room.1 c.triple_at-c.ensures c.triple_at-s.ensures }

pub add_terms-requires : goal.add_terms-requires
add_terms-requires c = record { add_room = c.requires.assembly_room.0.matrices; within = both-within _ _ c.requires.indexed c.requires.assembly_room.1 c.triple_at-c.ensures c.triple_at-s.ensures }

pub returns : goal.returns
returns c =
    triangle-all _ _ _ _ _ _ _ c.triple_at-c.ensures c.triple_at-s.ensures c.terms_at-z.ensures c.add_terms.ensures
