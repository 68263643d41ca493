use Prim.Native.Nat.{◌-◌, ◌≤◌}
use mathlib.Core.Path.{◌≡◌}
use lib.ListN.{length}
use Rattle.linear_cells.specs.Cell.{put_c}
use Rattle.pass_constraints.proofs.Loops.{couple_to}
use Rattle.pass_constraints.proofs.couple.Given as goal

abbrev pub invariant-loop-i : goal.invariant-loop-i
invariant-loop-i l =
    (l.i ≤ l.n) × ((length l.work ≡ length l.initial.work) × (l.work ≡ put_c l.initial.work l.l.rhs (couple_to l.initial.work l.l l.n l.flag l.i)))

abbrev pub decreases-loop-i : goal.decreases-loop-i
decreases-loop-i l = l.n - l.i
