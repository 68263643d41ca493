use Rattle.pass_geometries.proofs.Steps.{To}
use Rattle.pass_geometries.proofs.geometries.Given as goal

abbrev pub invariant-loop-i : goal.invariant-loop-i
invariant-loop-i l = To l.p l.i l.initial.work l.initial.words l.work l.words
