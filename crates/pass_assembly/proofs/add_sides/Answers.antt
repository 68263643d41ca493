-- `pass_assembly::add_sides` meets its contract: the calls' contracts, one after the other; the laws are in proofs/Adds.
use Rattle.pass_assembly.proofs.Adds.{sides_all}
use Rattle.pass_assembly.proofs.add_sides.Goals as goal

pub returns : goal.returns
returns c =
    sides_all _ _ _ c.requires.1 _ _ c.add_cell.ensures c.add_cell-2.ensures c.add_cell-3.ensures
