-- `text_columns::put_line` meets its contract: the columns, and the line feed behind them. Assumes nothing.
use mathlib.Core.Path.{refl}
use Rattle.text_columns.proofs.Columns.{line-done}
use Rattle.text_columns.proofs.put_line.Goals as goal

pub returns : goal.returns
returns c =
    line-done c.args.row.now c.args.out.now c.args.at _ refl c.put_columns.ensures refl
