use Rattle.refinement.proofs.Stands.{Within}
use Rattle.refinement.proofs.refine_triangles_within.Given as goal

abbrev pub invariant-loop-i : goal.invariant-loop-i
invariant-loop-i l = Within l.points l.table l.triangles l.initial.numbers l.at l.i l.numbers l.k
