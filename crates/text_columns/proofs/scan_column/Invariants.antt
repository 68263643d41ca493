use mathlib.Core.Path.{◌≡◌}
use Rattle.text_columns.specs.Columns.{scan}
use Rattle.text_columns.proofs.scan_column.Given as goal

abbrev pub invariant-loop-b : goal.invariant-loop-b
invariant-loop-b l = l.s ≡ scan l.column l.b-index
