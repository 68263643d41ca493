-- `refine_call::points::put_midpoints` meets its contract: after k turns the midpoints of the first k sides are stored; the laws are in proofs/Midpoints.
use Rattle.refine_call.proofs.Midpoints.{mids-none, mids-again}
use Rattle.refine_call.proofs.points.put_midpoints.Goals as goal

pub loop-k-init : goal.loop-k-init
loop-k-init c = mids-none c.args.points.now c.args.ends.now c.args.out.now c.args.at

pub loop-k-preserved : goal.loop-k-preserved
loop-k-preserved c =
    mids-again c.args.points.now
    c.args.ends.now c.args.out.now c.args.at c.loop-k.k c.loop-k.invariant
    c.put_midpoint.ensures
