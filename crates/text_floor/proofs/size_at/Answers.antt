-- `text_floor::size_at` meets its contract: a column's number has at most six digits. Assumes nothing.
use native.Mathlib.Omega.{arith}
use mathlib.Core.Path.{ap, ◌∙◌}
use Rattle.text_columns.specs.Columns.{size_of}
use Rattle.text_floor.proofs.Lines.{small-column}
use Rattle.text_floor.proofs.size_at.Goals as goal

pub overflow_cast-result : goal.overflow_cast-result
overflow_cast-result c = omega (arith, c.size.ensures ∙ ap size_of c.column_at.ensures, small-column c.args.text.now c.args.a)
