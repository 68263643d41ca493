-- `pass_assembly::assemble` meets its contract: the calls' contracts, one after the other; the laws are in proofs/Rounds.
use Rattle.pass_assembly.proofs.Rounds.{cleared-room, cleared-none, assemble-all}
use Rattle.pass_assembly.proofs.assemble.Goals as goal

pub add_triangles-requires : goal.add_triangles-requires
add_triangles-requires c = record { assembly_room = cleared-room _ _ _ _ c.requires.assembly_room c.clear.ensures c.clear-2.ensures; indexed = (c.requires.indexed, cleared-none _ _ _ _ _ _ c.requires.assembly_room c.clear.ensures c.clear-2.ensures) }

pub returns : goal.returns
returns c =
    assemble-all _ _ _ _ _ _ c.requires.assembly_room c.clear.ensures c.clear-2.ensures c.requires.indexed c.add_triangles.ensures
