-- `text_answer::lines::put_triangles` meets its contract: after i iterations the lines of the first i are written; the laws are in proofs/Stores. Assumes nothing.
use Rattle.text_answer.proofs.Stores.{triangles-none, triangles-again}
use Rattle.text_answer.proofs.lines.put_triangles.Goals as goal

pub loop-i-init : goal.loop-i-init
loop-i-init c = triangles-none c.args.corners.now c.args.out.now c.args.at

pub loop-i-preserved : goal.loop-i-preserved
loop-i-preserved c = triangles-again c.args.corners.now c.args.out.now c.args.at c.loop-i.i c.loop-i.invariant c.put_triangle.ensures
