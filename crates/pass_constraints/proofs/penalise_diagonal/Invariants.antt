use Prim.Native.Nat.{◌-◌, ◌≤◌}
use mathlib.Core.Path.{◌≡◌}
use lib.ListN.{length}
use Rattle.linear_cells.specs.Region.{put}
use Rattle.pass_constraints.proofs.Loops.{penalise_to}
use Rattle.pass_constraints.proofs.penalise_diagonal.Given as goal

abbrev pub invariant-loop-i : goal.invariant-loop-i
invariant-loop-i l =
    (l.i ≤ l.n) × ((length l.work ≡ length l.initial.work) × (l.work ≡ put l.initial.work l.l.diagonal (penalise_to l.initial.work l.l l.n l.flag l.i)))

abbrev pub decreases-loop-i : goal.decreases-loop-i
decreases-loop-i l = l.n - l.i
