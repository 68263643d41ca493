-- `pass_assembly::add_part` meets its contract: the calls' contracts, one after the other; the laws are in proofs/Adds.
use Rattle.pass_assembly.proofs.Adds.{part-all}
use Rattle.pass_assembly.proofs.add_part.Goals as goal

pub returns : goal.returns
returns c =
    part-all _ _ _ _ _ c.requires.2 c.add_corners.ensures c.add_sides.ensures
