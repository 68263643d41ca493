-- `arctangent::atan_size` meets its contract: the arms of `atan_size`. Assumes nothing.
use Rattle.arctangent.proofs.Arms.{arms}
use Rattle.arctangent.specs.Arc.{atan_size}
use Rattle.arctangent.proofs.atan_size.Goals as goal

pub returns-then-ix-lt1072037888 : goal.returns-then-ix-lt1072037888
unfolding atan_size
returns-then-ix-lt1072037888 c = search arms

pub returns-then-ix-lt1072889856 : goal.returns-then-ix-lt1072889856
unfolding atan_size
returns-then-ix-lt1072889856 c = search arms

pub returns-then-ix-lt1073971200 : goal.returns-then-ix-lt1073971200
unfolding atan_size
returns-then-ix-lt1073971200 c = search arms

pub returns : goal.returns
unfolding atan_size
returns c = search arms
