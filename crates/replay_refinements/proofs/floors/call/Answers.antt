-- `replay_refinements::floors::call` meets its contract: the fronts are lent, and what stands behind them stays.
use Rattle.replay_refinements.proofs.Asked.{lends}
use Rattle.replay_refinements.proofs.floors.call.Goals as goal

pub returns : goal.returns
returns c =
    lends c.args.row.now c.args.points.now c.args.tris.now c.args.sizes.now
    c.args.angles.now c.args.op.now c.args.os.now c.args.ot.now c.args.oe.now
    c.count-a.ensures.0 c.count-b.ensures.0 c.count-c.ensures.0 c.count-d.ensures.0 c.double.ensures
    c.refine.ensures
