use Rattle.std.proofs.Common.{◌≡◌, ◌+◌}
use Rattle.replay.specs.Rows.{up_to, double_at}
use lib.Seq.{sets}
use Rattle.replay.proofs.rows.doubles.Given as goal

abbrev pub invariant-loop-i : goal.invariant-loop-i
invariant-loop-i l = l.out ≡ sets l.initial.out 0 (up_to (λ j. double_at l.row (l.k + j)) l.i)
