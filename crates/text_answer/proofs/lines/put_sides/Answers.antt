-- `text_answer::lines::put_sides` meets its contract: after i iterations the lines of the first i are written; the laws are in proofs/Stores. Assumes nothing.
use Rattle.text_answer.proofs.Stores.{sides-none, sides-again}
use Rattle.text_answer.proofs.lines.put_sides.Goals as goal

pub loop-i-init : goal.loop-i-init
loop-i-init c = sides-none c.args.ends.now c.args.out.now c.args.at

pub loop-i-preserved : goal.loop-i-preserved
loop-i-preserved c = sides-again c.args.ends.now c.args.out.now c.args.at c.loop-i.i c.loop-i.invariant c.put_side.ensures
