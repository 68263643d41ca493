-- `replay_refinements::floors::given` meets its contract: what is called answers by its definition.
use native.Mathlib.Nat.{sub-zero}
use mathlib.Core.Path.{◌∙◌}
use Rattle.replay_refinements.proofs.floors.given.Goals as goal

pub returns : goal.returns
returns c =
    c.ask.ensures ∙ simp (sub-zero, c.count-a.ensures.0, c.count-s.ensures.0, c.count-t.ensures.0, c.count-p.ensures.0)
