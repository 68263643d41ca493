use mathlib.Core.Path.{◌≡◌}
use lib.Seq.{sets}
use Rattle.text_floor.specs.Text.{corners_up_to}
use Rattle.text_floor.proofs.put_triangles.Given as goal

abbrev pub invariant-loop-i : goal.invariant-loop-i
invariant-loop-i l = l.out ≡ sets l.initial.out 0 (corners_up_to l.text l.n l.i)
