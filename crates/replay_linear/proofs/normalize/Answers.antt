-- `replay_linear::normalize` is safe: what it calls asks holds where it is called.
use native.Mathlib.Omega.{arith}
use mathlib.Core.Path.{sym}
use lib.Seq.{length-take-le}
use Rattle.replay_linear.proofs.normalize.Goals as goal

pub slice_bounds-normalize-end : goal.slice_bounds-normalize-end
slice_bounds-normalize-end c = sym (length-take-le _ _ (omega arith))

pub slice_bounds-normalize-end-2 : goal.slice_bounds-normalize-end-2
slice_bounds-normalize-end-2 c = sym (length-take-le _ _ (omega arith))
