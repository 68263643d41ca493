-- `sine::switched` meets its contract: the switch over what the reduction hands on. Assumes nothing.
use Rattle.sine.specs.Sine.{rem_pio2}
use Rattle.sine.proofs.Quarters.{cos-switch}
use Rattle.sine.proofs.switched.Goals as goal
use Rattle.sine.proofs.switched.Goals.{in-Sin, in-Cos}

pub returns : goal.returns
returns c =
    elim c.match-asked.branch [
      | in-Sin w ↦ simp (w.in-Sin.is, c.sin_switch-r.ensures, w.quarter-is, c.rem_pio2-p.ensures)
      | in-Cos w ↦ simp (w.in-Cos.is, c.sin_switch-r.ensures, w.quarter-is, c.rem_pio2-p.ensures, cos-switch (rem_pio2 c.args.x))
    ]
