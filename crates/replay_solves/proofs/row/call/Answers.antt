-- `replay_solves::row::call` meets its contract: the fronts are lent, and what stands behind them stays.
use Rattle.replay_solves.proofs.Asked.{lends}
use Rattle.replay_solves.proofs.row.call.Goals as goal

pub returns : goal.returns
returns c =
    lends c.args.row.now c.args.points.now c.args.tris.now c.args.sizes.now
    c.args.angles.now c.args.coarse.now c.args.fine.now c.args.work.now c.args.numbers.now
    c.count-a.ensures.0 c.count-b.ensures.0 c.count-c.ensures.0 c.count-d.ensures.0
    c.options_of-o.ensures c.asked_of-asked.ensures c.solve.ensures
