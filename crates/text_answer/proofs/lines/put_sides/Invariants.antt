use mathlib.Core.Path.{◌≡◌}
use lib.Seq.{sets}
use Rattle.text_answer.specs.Lines.{side_lines, sides_up_to}
use Rattle.text_answer.proofs.lines.put_sides.Given as goal

abbrev pub invariant-loop-i : goal.invariant-loop-i
invariant-loop-i l = l.out ≡ sets l.initial.out l.at (side_lines (sides_up_to l.ends l.i))
