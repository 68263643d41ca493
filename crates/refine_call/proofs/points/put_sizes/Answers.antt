-- `refine_call::points::put_sizes` meets its contract: each return opens the definition and rewrites it by the tests and the calls on its way; the laws are in proofs/Parts.
use mathlib.Core.Path.{refl}
use Rattle.mesh.specs.Points.{more_sizes}
use Rattle.refine_call.proofs.Midpoints.{more-done}
use Rattle.refine_call.proofs.points.put_sizes.Goals as goal

pub returns : goal.returns
unfolding more_sizes
returns c =
    more-done c.args.sizes.now _ c.args.out.now _ refl c.copy.ensures c.put_mid_sizes.ensures
