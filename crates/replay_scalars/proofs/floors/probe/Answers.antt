-- `replay_scalars::floors::probe` meets its contract: each slice is filled to its end.
use mathlib.Core.Path.{refl, ◌∙◌}
use Rattle.replay.proofs.Fill.{fill-whole}
use Rattle.replay_scalars.proofs.floors.probe.Goals as goal

pub returns : goal.returns
returns c =
    c.ask_probe.ensures ∙ simp (fill-whole _ _ 8 refl c.doubles.ensures, fill-whole _ _ 24 refl c.doubles-2.ensures, fill-whole _ _ 18 refl c.corners.ensures)
