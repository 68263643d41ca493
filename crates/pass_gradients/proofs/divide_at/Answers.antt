-- `pass_gradients::divide_at` meets its contract: each return follows from the tests and the calls on its way.
use lib.ListN.{length-set}
use Rattle.pass_gradients.specs.Work.{divide_at}
use native.Mathlib.Omega.{arith}
use mathlib.Core.Path.{refl}
use Rattle.pass_gradients.proofs.divide_at.Goals as goal

pub bounds-work-sums-5 : goal.bounds-work-sums-5
bounds-work-sums-5 c = simp length-set (omega arith)

pub returns : goal.returns
unfolding divide_at
returns c = refl
