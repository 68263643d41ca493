-- `root::root_at` meets its contract: the pattern is put together as in `root_at`. Assumes nothing.
use Rattle.root.specs.Root.{root_at}
use Rattle.root.proofs.root_at.Goals as goal

pub returns : goal.returns
unfolding root_at
returns c = simp (c.aligned.ensures.0, c.root_nearest-r.ensures.0)
