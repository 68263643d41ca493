use Rattle.std.proofs.Common.{◌≡◌, ◌+◌}
use Rattle.replay.specs.Rows.{up_to, corner_at}
use lib.Seq.{sets}
use Rattle.replay.proofs.rows.corners.Given as goal

abbrev pub invariant-loop-i : goal.invariant-loop-i
invariant-loop-i l = l.out ≡ sets l.initial.out 0 (up_to (λ j. corner_at l.row (l.k + j)) l.i)
