-- `float::round` meets its contract: the arms of `round_away`. Assumes nothing.
use Rattle.float.specs.Double.{round_away}
use Rattle.float.proofs.round.Goals as goal

pub returns-then-x : goal.returns-then-x
unfolding round_away
returns-then-x c = simp c.if-x.true

pub returns-then-x-2 : goal.returns-then-x-2
unfolding round_away
returns-then-x-2 c = simp (c.if-x.false, ← c.abs-a.ensures, c.if-a.true, c.round_size-r.ensures, c.if-x-2.true)

pub returns-then-a : goal.returns-then-a
unfolding round_away
returns-then-a c = simp (c.if-x.false, ← c.abs-a.ensures, c.if-a.true, c.round_size-r.ensures, c.if-x-2.false)

pub returns : goal.returns
unfolding round_away
returns c = simp (c.if-x.false, ← c.abs-a.ensures, c.if-a.false)
