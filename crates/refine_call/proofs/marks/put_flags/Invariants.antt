use Rattle.refinement.specs.Flag.{flagged_tri}
use Rattle.refine_call.specs.Marks.{FlagsTo}
use Rattle.refine_call.proofs.marks.put_flags.Given as goal

abbrev pub invariant-loop-i : goal.invariant-loop-i
invariant-loop-i l = FlagsTo (flagged_tri l.threshold l.angles) l.triangles l.i l.initial.marks l.marks l.flagged
