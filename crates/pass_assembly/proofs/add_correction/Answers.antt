-- `pass_assembly::add_correction` meets its contract: the calls' contracts, one after the other; the laws are in proofs/Adds.
use Rattle.pass_assembly.proofs.Adds.{correction-none, correction-some}
use Rattle.pass_assembly.proofs.add_correction.Goals as goal

pub returns-then-weight : goal.returns-then-weight
returns-then-weight c = correction-none _ _ _ _ _ _ c.if-weight.true

pub returns : goal.returns
returns c = correction-some _ _ _ _ _ _ c.if-weight.false c.add_corners.ensures
