use mathlib.Core.Path.{◌≡◌}
use mathlib.Core.Bool.{true, cond}
use Rattle.text_columns.specs.Columns.{is_number, is_whole}
use Rattle.text_floor.specs.Text.{line_by, every}
use Rattle.text_floor.proofs.are_lines.Given as goal

abbrev pub invariant-loop-i : goal.invariant-loop-i
invariant-loop-i l = every (line_by (cond l.whole is_whole is_number) l.text) l.from l.i ≡ true
