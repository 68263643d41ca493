use Rattle.linear_vectors.proofs.Sweeps.{lag_to}
use mathlib.Core.Path.{◌≡◌}
use Prim.Native.Nat.{◌*◌, ◌-◌, ◌/◌, ◌%◌, ◌≤◌}
use lib.ListN.{length}
use Rattle.linear_vectors.specs.ResidualWork.{lag}
use Rattle.linear_vectors.proofs.residual.lagged.Given as goal

abbrev pub invariant-loop-i : goal.invariant-loop-i
invariant-loop-i l =
    (l.end ≡ 2 * l.count) × (l.i ≤ l.end) × (l.i % 2 ≡ 0) × (length l.work ≡ length l.initial.work) × (lag l.work l.s ≡ lag_to l.initial.work l.r l.q l.inverse l.n l.alpha (l.i / 2))

abbrev pub decreases-loop-i : goal.decreases-loop-i
decreases-loop-i l = l.end - l.i
