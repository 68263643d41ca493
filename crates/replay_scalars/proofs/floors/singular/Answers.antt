-- `replay_scalars::floors::singular` meets its contract: each slice is filled to its end.
use mathlib.Core.Path.{refl, ◌∙◌}
use Rattle.replay.proofs.Fill.{fill-whole}
use Rattle.replay_scalars.proofs.floors.singular.Goals as goal

pub returns : goal.returns
returns c =
    c.ask_singular.ensures ∙ simp (fill-whole _ _ 8 refl c.doubles.ensures, fill-whole _ _ 18 refl c.corners.ensures)
