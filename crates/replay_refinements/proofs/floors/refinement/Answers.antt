-- `replay_refinements::floors::refinement` meets its contract: each slice is filled to its end.
use mathlib.Core.Path.{refl, ◌∙◌}
use Rattle.replay.proofs.Fill.{fill-whole}
use Rattle.replay_refinements.proofs.floors.refinement.Goals as goal

pub returns : goal.returns
returns c =
    c.given.ensures ∙ simp (fill-whole _ _ 24 refl c.doubles.ensures, fill-whole _ _ 8 refl c.doubles-2.ensures, fill-whole _ _ 8 refl c.doubles-3.ensures, fill-whole _ _ 15 refl c.corners.ensures)
