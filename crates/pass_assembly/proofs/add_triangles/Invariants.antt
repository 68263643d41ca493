use Rattle.pass_assembly.specs.Work.{assembled_to}
use lib.ListN.{length}
use mathlib.Core.Path.{◌≡◌}
use Prim.Native.Nat.{◌-◌, ◌≤◌}
use Rattle.pass_assembly.proofs.add_triangles.Given as goal

abbrev pub invariant-loop-t : goal.invariant-loop-t
invariant-loop-t l =
    (l.t-end ≡ l.l.triangles) × (l.t ≤ l.l.triangles) × (length l.w ≡ length l.initial.w) × (l.w ≡ assembled_to l.m l.initial.w l.u l.l l.mass l.energy l.t)

abbrev pub decreases-loop-t : goal.decreases-loop-t
decreases-loop-t l = l.t-end - l.t
