-- `edges::numbers::copy_fourths` meets its contract: after k iterations the first k numbers are copied; the laws are in proofs/Split.
use mathlib.Core.Path.{refl}
use Rattle.edges.proofs.Split.{fourths-none, fourths-more}
use Rattle.edges.proofs.numbers.copy_fourths.Goals as goal

pub loop-k-init : goal.loop-k-init
loop-k-init c = fourths-none _ _ _

pub loop-k-preserved : goal.loop-k-preserved
loop-k-preserved c = fourths-more _ _ _ _ _ c.requires.0 c.loop-k-test.true c.loop-k.invariant refl
