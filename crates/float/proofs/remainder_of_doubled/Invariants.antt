use Rattle.std.proofs.Common.{◌≡◌, ◌*◌, ◌%◌, ◌^◌, ◌<◌}
use Rattle.float.proofs.remainder_of_doubled.Given as goal

-- what is left, doubled as often as is left, has the remainder that is asked for
abbrev pub invariant-loop-left : goal.invariant-loop-left
invariant-loop-left l = record { small : l.rest < 2 ^ 53; same : l.rest * 2 ^ l.left % l.q ≡ l.p * 2 ^ l.j % l.q }

abbrev pub decreases-loop-left : goal.decreases-loop-left
decreases-loop-left l = l.left
