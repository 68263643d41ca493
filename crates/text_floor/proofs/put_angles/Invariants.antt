use mathlib.Core.Path.{◌≡◌}
use lib.Seq.{sets}
use Rattle.text_floor.specs.Text.{angles_up_to}
use Rattle.text_floor.proofs.put_angles.Given as goal

abbrev pub invariant-loop-i : goal.invariant-loop-i
invariant-loop-i l = l.out ≡ sets l.initial.out 0 (angles_up_to l.text l.i)
