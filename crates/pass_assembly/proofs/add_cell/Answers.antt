-- `pass_assembly::add_cell` meets its contract: the calls' contracts, one after the other; the laws are in proofs/Adds.
use Rattle.pass_assembly.proofs.Adds.{cell-added}
use mathlib.Core.Path.{◌∙◌}
use Rattle.pass_assembly.proofs.add_cell.Goals as goal

pub returns : goal.returns
returns c =
    cell-added _ _ _ _ _ c.requires.0 (c.store.ensures ∙ rw (c.add-sum.ensures, c.load.ensures))
