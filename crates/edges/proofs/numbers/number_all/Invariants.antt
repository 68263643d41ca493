use Rattle.edges.specs.Numbering.{NumberedTo}
use Rattle.edges.proofs.numbers.number_all.Given as goal

abbrev pub invariant-loop-i : goal.invariant-loop-i
invariant-loop-i l = NumberedTo l.p.corners l.p.numbers l.p.table l.p.buckets l.i l.initial.w l.w l.m
