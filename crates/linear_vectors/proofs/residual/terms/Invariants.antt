use Rattle.linear_vectors.proofs.Sweeps.{terms_to}
use mathlib.Core.Path.{◌≡◌}
use Prim.Native.Nat.{◌≤◌, ◌-◌}
use lib.ListN.{length}
use Rattle.linear_vectors.proofs.residual.terms.Given as goal

abbrev pub invariant-loop-k : goal.invariant-loop-k
invariant-loop-k l =
    (l.k ≤ l.count) × (length l.work ≡ length l.initial.work) × (l.work ≡ terms_to l.initial.work l.r l.q l.inverse l.n l.alpha l.first l.k)

abbrev pub decreases-loop-k : goal.decreases-loop-k
decreases-loop-k l = l.count - l.k
