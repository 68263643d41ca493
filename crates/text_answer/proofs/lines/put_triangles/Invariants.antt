use mathlib.Core.Path.{◌≡◌}
use lib.Seq.{sets}
use Rattle.refinement.specs.Floor.{tris}
use Rattle.text_answer.specs.Lines.{triangle_lines}
use Rattle.text_answer.proofs.lines.put_triangles.Given as goal

abbrev pub invariant-loop-i : goal.invariant-loop-i
invariant-loop-i l = l.out ≡ sets l.initial.out l.at (triangle_lines (tris l.corners l.i))
