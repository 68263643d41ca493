-- `refinement::cut_sides` meets its contract: after i iterations the sides of the flagged among the first i triangles are cut; the laws are in proofs/Parts.
use Rattle.refinement.proofs.Parts.{cut-none, cut_again}
use Rattle.refinement.proofs.cut_sides.Goals as goal

pub loop-i-init : goal.loop-i-init
loop-i-init c = cut-none _ _ _ c.requires.held_in

pub loop-i-preserved : goal.loop-i-preserved
loop-i-preserved c = cut_again c.loop-i.invariant c.cut_triangle-cut.ensures
