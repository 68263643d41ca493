-- `text_columns::put_column` meets its contract: the six bytes of a column. Assumes nothing.
use mathlib.Core.Path.{refl, ◌∙◌}
use Rattle.text_columns.proofs.Columns.{six-bytes}
use Rattle.text_columns.proofs.put_column.Goals as goal

pub returns : goal.returns
returns c =
    c.copy.ensures ∙ rw (
      six-bytes c.args.n,
      c.blank_or_digit-5.ensures,
      c.blank_or_digit-4.ensures,
      c.blank_or_digit-3.ensures,
      c.blank_or_digit-2.ensures,
      c.blank_or_digit.ensures,
    )
    refl
