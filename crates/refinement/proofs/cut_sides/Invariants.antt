use Rattle.refinement.specs.Flag.{flagged_tri}
use Rattle.refinement.specs.Steps.{CutTo}
use Rattle.refinement.proofs.cut_sides.Given as goal

abbrev pub invariant-loop-i : goal.invariant-loop-i
invariant-loop-i l = CutTo l.table (flagged_tri l.threshold l.angles) l.triangles l.i l.initial.numbers l.numbers l.cut
