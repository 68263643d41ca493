use Rattle.edges.specs.Numbering.{Counted}
use Rattle.edges.proofs.numbers.count_all.Given as goal

abbrev pub invariant-loop-j : goal.invariant-loop-j
invariant-loop-j l = Counted l.e l.j l.a l.m l.initial.w l.w
