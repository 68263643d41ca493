use mathlib.Core.Path.{◌≡◌}
use Prim.Native.Nat.{◌≤◌}
use lib.ListN.{length}
use Rattle.linear_adjacency.proofs.Filling.{fill_to}
use Rattle.linear_adjacency.proofs.lent.fill.Given as goal

abbrev pub invariant-loop-e : goal.invariant-loop-e
invariant-loop-e l = (l.e ≤ length l.from) × (length l.w ≡ length l.initial.w) × (l.w ≡ fill_to l.from l.to l.n l.initial.w l.at l.e)
