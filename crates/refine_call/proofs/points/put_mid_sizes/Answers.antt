-- `refine_call::points::put_mid_sizes` meets its contract: after k turns the sizes of the first k sides are stored; the laws are in proofs/Midpoints.
use Rattle.refine_call.proofs.Midpoints.{sizes-none, sizes-again}
use Rattle.refine_call.proofs.points.put_mid_sizes.Goals as goal

pub loop-k-init : goal.loop-k-init
loop-k-init c = sizes-none c.args.sizes.now c.args.ends.now c.args.out.now c.args.at

pub loop-k-preserved : goal.loop-k-preserved
loop-k-preserved c = sizes-again c.args.sizes.now c.args.ends.now c.args.out.now c.args.at c.loop-k.k c.loop-k.invariant c.mid_size.ensures
