-- `replay_refinements::guidance_row` meets its contract: what is called answers by its definition.
use Rattle.replay_refinements.proofs.guidance_row.Goals as goal

pub returns : goal.returns
returns c = simp (c.same.ensures, c.double.ensures, c.mid_angle.ensures, c.double-high.ensures, c.double-low.ensures)
