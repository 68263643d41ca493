use mathlib.Core.Path.{◌≡◌}
use lib.Seq.{sets}
use Rattle.text_floor.specs.Text.{points_up_to}
use Rattle.text_floor.proofs.put_points.Given as goal

abbrev pub invariant-loop-i : goal.invariant-loop-i
invariant-loop-i l = l.out ≡ sets l.initial.out 0 (points_up_to l.text l.i)
