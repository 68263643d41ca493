-- `pass_assembly::add_real` meets its contract: the calls' contracts, one after the other; the laws are in proofs/Adds.
use Rattle.pass_assembly.proofs.Adds.{real-added}
use mathlib.Core.Path.{◌∙◌}
use Rattle.pass_assembly.proofs.add_real.Goals as goal

pub returns : goal.returns
returns c =
    real-added _ _ _ _ _ c.requires.0 (c.store_real.ensures ∙ rw c.load_real.ensures)
