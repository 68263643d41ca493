-- `edges::find_side` meets its contract: the walk is to the side with the lower end first.
use Rattle.mesh.proofs.Cuts.{key-rising, key-falling}
use Rattle.edges.proofs.find_side.Goals as goal

pub returns-then-u-v : goal.returns-then-u-v
returns-then-u-v c = rw (key-rising _ _ c.if-u-v.true) (c.walk-s.ensures.number, c.walk-s.ensures.few)

pub returns : goal.returns
returns c = rw (key-falling _ _ c.if-u-v.false) (c.walk-s-2.ensures.number, c.walk-s-2.ensures.few)
