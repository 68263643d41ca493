-- `arctangent::atan_tail` meets its contract: the operations are those of `atan_tail`. Assumes nothing.
use mathlib.Core.Path.{refl}
use Rattle.arctangent.specs.Arc.{atan_tail}
use Rattle.arctangent.proofs.atan_tail.Goals as goal

pub returns : goal.returns
unfolding atan_tail
returns c = refl
