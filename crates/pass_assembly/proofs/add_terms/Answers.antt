-- `pass_assembly::add_terms` meets its contract: the calls' contracts, one after the other; the laws are in proofs/Rounds.
use Rattle.pass_assembly.proofs.Rounds.{terms-all}
use Rattle.pass_assembly.proofs.add_terms.Goals as goal

pub returns : goal.returns
returns c =
    terms-all _ _ _ c.requires.add_room _ _ _ _ c.add_part.ensures c.add_part-2.ensures c.add_correction.ensures
