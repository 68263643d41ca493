use Prim.Native.Nat.{◌-◌, ◌≤◌}
use mathlib.Core.Path.{◌≡◌}
use lib.ListN.{length}
use Rattle.linear_cells.specs.Cell.{put_c}
use Rattle.pass_constraints.proofs.Loops.{drop_to}
use Rattle.pass_constraints.proofs.drop_entries.Given as goal

abbrev pub invariant-loop-e : goal.invariant-loop-e
invariant-loop-e l =
    (l.m ≡ l.h.edges) × ((l.e ≤ l.h.edges) × ((length l.work ≡ length l.initial.work) × (l.work ≡ put_c l.initial.work l.h.off (drop_to l.initial.work l.h l.flag l.from l.to l.e))))

abbrev pub decreases-loop-e : goal.decreases-loop-e
decreases-loop-e l = l.h.edges - l.e
