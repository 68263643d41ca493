-- `edges::two_slices::meet_side` meets its contract: the side is met with the lower end first.
use Rattle.mesh.proofs.Cuts.{key-rising, key-falling}
use Rattle.edges.proofs.two_slices.meet_side.Goals as goal

pub returns-then-u-v : goal.returns-then-u-v
returns-then-u-v c =
    rw (key-rising _ _ c.if-u-v.true) c.find_or_insert.ensures

pub returns : goal.returns
returns c =
    rw (key-falling _ _ c.if-u-v.false) c.find_or_insert-2.ensures
