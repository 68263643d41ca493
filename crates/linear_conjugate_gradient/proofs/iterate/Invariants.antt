use Rattle.linear_conjugate_gradient.proofs.Runs.{RunAt}
use mathlib.Core.Path.{◌≡◌}
use Prim.Native.Nat.{◌≤◌, ◌-◌}
use lib.ListN.{length}
use Rattle.linear_conjugate_gradient.proofs.iterate.Given as goal

abbrev pub invariant-loop-i : goal.invariant-loop-i
invariant-loop-i l =
    (l.i ≤ l.most) × (length l.work ≡ length l.initial.work) × RunAt l.initial.work l.h l.l l.from l.to l.limit l.first l.most l.work l.i l.dot

abbrev pub decreases-loop-i : goal.decreases-loop-i
decreases-loop-i l = l.most - l.i
