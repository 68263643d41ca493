use Rattle.pass_gradients.specs.Work.{GatheredTo}
use Rattle.pass_gradients.proofs.gather_all.Given as goal

abbrev pub invariant-loop-t : goal.invariant-loop-t
invariant-loop-t l = GatheredTo l.p l.t l.words l.initial.work l.work
