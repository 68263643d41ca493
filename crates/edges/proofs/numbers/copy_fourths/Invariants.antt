use mathlib.Core.Path.{◌≡◌}
use lib.Seq.{sets}
use Rattle.edges.specs.Table.{fourths}
use Rattle.edges.proofs.numbers.copy_fourths.Given as goal

abbrev pub invariant-loop-k : goal.invariant-loop-k
invariant-loop-k l = l.w ≡ sets l.initial.w l.to (fourths l.at l.initial.w l.k)
