use mathlib.Core.Path.{◌≡◌}
use Prim.Native.Nat.{◌≤◌, ◌-◌}
use lib.ListN.{length}
use Rattle.linear_cells.specs.Cell.{put_c}
use Rattle.pass_soft.proofs.Targets.{repeat_to}
use Rattle.pass_soft.proofs.repeat.Given as goal

abbrev pub invariant-loop-i : goal.invariant-loop-i
invariant-loop-i l =
    (l.i ≤ l.n) × (length l.work ≡ length l.initial.work) × (l.work ≡ put_c l.initial.work l.target (repeat_to l.initial.work l.target l.n l.z l.i))

abbrev pub decreases-loop-i : goal.decreases-loop-i
decreases-loop-i l = l.n - l.i
