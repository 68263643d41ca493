-- `root::root_nearest` meets its contract: a number that `settled` finds is the nearest, whatever the guess was. Assumes nothing.
use Rattle.root.proofs.Laws.{nearest-is}
use Rattle.root.proofs.root_nearest.Goals as goal

pub returns-in-Some : goal.returns-in-Some
returns-in-Some c =
    let found = c.in-Some.ensures in
    (nearest-is c.args.d c.in-Some.q c.ranges.d.fits c.requires found.1, found.0)
