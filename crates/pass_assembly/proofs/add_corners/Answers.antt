-- `pass_assembly::add_corners` meets its contract: the calls' contracts, one after the other; the laws are in proofs/Adds.
use Rattle.pass_assembly.proofs.Adds.{corners-all}
use Rattle.pass_assembly.proofs.add_corners.Goals as goal

pub returns : goal.returns
returns c =
    corners-all _ _ _ c.requires.1 _ _ c.add_real.ensures c.add_real-2.ensures c.add_real-3.ensures
