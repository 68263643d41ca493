-- `replay_solves::row::wipe` meets its contract: the front is lent, and what stands behind it stays.
use Rattle.float.specs.Double.{lit}
use Rattle.replay_solves.proofs.Asked.{wiped-front}
use Rattle.replay_solves.proofs.row.wipe.Goals as goal

pub returns : goal.returns
returns c =
    wiped-front (lit 0) c.args.out.now c.args.n c.requires (c.fill.ensures.after (λ y e. e))
