use Rattle.std.proofs.Common.{◌≡◌, drop}
use Rattle.replay.specs.Rows.{same_as, same_all}
use Rattle.replay.proofs.rows.same_doubles.Given as goal

abbrev pub invariant-loop-i : goal.invariant-loop-i
invariant-loop-i l = same_all same_as l.a l.b ≡ same_all same_as (drop l.i l.a) (drop l.i l.b)
