use Rattle.pass_transports.proofs.Steps.{To}
use Rattle.pass_transports.proofs.transports.Given as goal

abbrev pub invariant-loop-e : goal.invariant-loop-e
invariant-loop-e l = To l.l l.from l.to l.e l.initial.w l.w
