-- `float::round_size` meets its contract: the arms of `round_size`. Assumes nothing.
use Rattle.float.specs.Double.{round_size}
use Rattle.float.proofs.round_size.Goals as goal

pub returns-then-a-f : goal.returns-then-a-f
unfolding round_size
returns-then-a-f c = simp (← c.whole.ensures, ← c.from_whole-f.ensures, c.if-a-f.true)

pub returns : goal.returns
unfolding round_size
returns c = simp (← c.whole.ensures, ← c.from_whole-f.ensures, c.if-a-f.false)
