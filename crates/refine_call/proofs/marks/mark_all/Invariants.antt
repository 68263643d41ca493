use Rattle.edges.specs.TwoSlices.{sides_at}
use Rattle.refine_call.specs.Marks.{MarksTo}
use Rattle.refine_call.proofs.marks.mark_all.Given as goal

abbrev pub invariant-loop-i : goal.invariant-loop-i
invariant-loop-i l = MarksTo l.points (sides_at l.ends l.table.sides) l.triangles l.i l.initial.marks l.marks l.pieces
