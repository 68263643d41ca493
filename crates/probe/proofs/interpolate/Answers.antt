-- `probe::interpolate` meets its contract: each return opens the definition and rewrites it by the tests and the calls on its way.
use Rattle.probe.specs.Weights.{interpolated}
use Rattle.probe.proofs.interpolate.Goals as goal

pub returns : goal.returns
unfolding interpolated
returns c =
    simp (
      c.add-2.ensures,
      c.add.ensures,
      c.scale-third.ensures,
      c.from_angle-3.ensures,
      c.scale-second.ensures,
      c.from_angle-2.ensures,
      c.scale-first.ensures,
      c.from_angle.ensures,
    )
