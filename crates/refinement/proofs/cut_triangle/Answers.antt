-- `refinement::cut_triangle` meets its contract: each return opens the definition and rewrites it by the tests and the calls on its way; the laws are in proofs/Parts.
use mathlib.Core.Path.{sym, ◌∙◌}
use Rattle.refinement.proofs.Parts.{step-flagged, step-passed}
use Rattle.refinement.proofs.cut_triangle.Goals as goal

pub returns-then-is_flagged : goal.returns-then-is_flagged
returns-then-is_flagged c =
    let e = c.corners-c.ensures in step-flagged _ (sym (rw e at c.is_flagged.ensures) ∙ c.if-is_flagged.true) (rw e at c.meet_triangle-met.ensures)

pub returns : goal.returns
returns c = step-passed _ (sym (rw c.corners-c.ensures at c.is_flagged.ensures) ∙ c.if-is_flagged.false) c.requires.held_in
