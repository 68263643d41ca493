-- `text_columns::put_columns` meets its contract: after j iterations the first j columns are written. Assumes nothing.
use Rattle.text_columns.proofs.Columns.{columns-none, columns-again}
use Rattle.text_columns.proofs.put_columns.Goals as goal

pub loop-j-init : goal.loop-j-init
loop-j-init c = columns-none c.args.row.now c.args.out.now c.args.at

pub loop-j-preserved : goal.loop-j-preserved
loop-j-preserved c =
    columns-again c.args.row.now
    c.args.out.now c.args.at c.loop-j.j c.loop-j-test.true c.loop-j.invariant c.put_column.ensures
