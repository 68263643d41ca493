use Prim.Native.Nat.{◌*◌, ◌≤◌}
use Rattle.edges.specs.Numbering.{tris_from}
use Rattle.pass_boundary.specs.Boundary.{walked}
use Rattle.pass_boundary.specs.Work.{Marked}
use Rattle.pass_boundary.proofs.mark_all.Given as goal

abbrev pub invariant-loop-i : goal.invariant-loop-i
invariant-loop-i l =
    (l.count ≤ 3 * l.i) × Marked l.l l.p (walked (tris_from l.l.corners l.initial.u l.i)) l.initial.u l.initial.w l.u l.w l.count
