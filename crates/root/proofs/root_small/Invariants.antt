use Rattle.std.proofs.Common.{◌+◌}
use lib.Ieee.{size}
use Rattle.root.proofs.Small.{filled, Doubling}
use Rattle.root.proofs.root_small.Given as goal

abbrev pub invariant-loop-c : goal.invariant-loop-c
invariant-loop-c l = Doubling (filled l.b) (size l.b + 1023) l.c l.x

abbrev pub decreases-loop-c : goal.decreases-loop-c
decreases-loop-c l = l.x
