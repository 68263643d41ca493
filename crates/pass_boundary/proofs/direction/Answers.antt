-- `pass_boundary::direction` meets its contract: each return follows from the calls on its way; the laws are in proofs/Steps.
use mathlib.Core.Path.{◌∙◌}
use Rattle.pass_boundary.proofs.Steps.{direction-of}
use Rattle.pass_boundary.proofs.direction.Goals as goal

pub returns : goal.returns
returns c =
    c.fourfold_direction.ensures ∙ rw (
      c.atan2.ensures,
      c.load_real-4.ensures,
      c.load_real-3.ensures,
      c.load_real-2.ensures,
      c.load_real.ensures,
    )
    (direction-of c.args.p _ _ _ c.requires.1.0 c.requires.1.1)
