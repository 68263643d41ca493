use Rattle.refine_call.specs.Marks.{CutsTo}
use Rattle.refine_call.proofs.marks.cut_all.Given as goal

abbrev pub invariant-loop-i : goal.invariant-loop-i
invariant-loop-i l = CutsTo l.points l.buckets l.count l.triangles l.i l.initial.ends l.initial.marks l.ends l.marks l.sides
