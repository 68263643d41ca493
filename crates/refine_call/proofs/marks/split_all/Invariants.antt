use Rattle.refine_call.proofs.Splitting.{SplitFrom}
use Rattle.refine_call.proofs.marks.split_all.Given as goal

abbrev pub invariant-loop-i : goal.invariant-loop-i
invariant-loop-i l = SplitFrom l.initial.marks l.triangles l.count l.i l.marks l.before
