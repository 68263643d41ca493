-- `arctangent::atan_near` meets its contract: the operations are those of `atan_near`. Assumes nothing.
use Rattle.arctangent.specs.Arc.{atan_near}
use Rattle.arctangent.proofs.atan_near.Goals as goal

pub returns : goal.returns
unfolding atan_near
returns c = simp c.atan_tail.ensures
