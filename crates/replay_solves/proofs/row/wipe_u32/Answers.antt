-- `replay_solves::row::wipe_u32` meets its contract: the front is lent, and what stands behind it stays.
use Rattle.replay_solves.proofs.Asked.{wiped-front}
use Rattle.replay_solves.proofs.row.wipe_u32.Goals as goal

pub returns : goal.returns
returns c =
    wiped-front 0 c.args.out.now c.args.n c.requires (c.fill.ensures.after (λ y e. e))
