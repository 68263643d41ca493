use Rattle.root.proofs.Laws.{Digits}
use Rattle.root.proofs.root_digits.Given as goal

abbrev pub invariant-loop-i : goal.invariant-loop-i
invariant-loop-i l = Digits l.d0 l.q l.r l.d l._i
