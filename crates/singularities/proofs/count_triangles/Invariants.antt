use Rattle.singularities.proofs.Count.{Tallied}
use Rattle.singularities.proofs.count_triangles.Given as goal

abbrev pub invariant-loop-t : goal.invariant-loop-t
invariant-loop-t l = Tallied l.alpha l.tris l.counts l.t
