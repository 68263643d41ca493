-- `text_floor::put_triangles` meets its contract: after i iterations the first i are written; the laws are in proofs/Lines. Assumes nothing.
use Rattle.text_floor.proofs.Lines.{corners-grow, put-none, put-again}
use Rattle.text_floor.proofs.put_triangles.Goals as goal

pub loop-i-init : goal.loop-i-init
loop-i-init c = put-none (corners-grow c.args.text.now c.args.n) c.args.out.now

pub loop-i-preserved : goal.loop-i-preserved
loop-i-preserved c = put-again (corners-grow c.args.text.now c.args.n) c.args.out.now c.loop-i.i c.loop-i.invariant c.put_triangle.ensures
