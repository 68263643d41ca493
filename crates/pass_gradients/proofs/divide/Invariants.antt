use Rattle.pass_gradients.proofs.Means.{To}
use Rattle.pass_gradients.proofs.divide.Given as goal

abbrev pub invariant-loop-v : goal.invariant-loop-v
invariant-loop-v l = To l.sums l.n l.v l.initial.work l.work
