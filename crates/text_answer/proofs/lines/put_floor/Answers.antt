-- `text_answer::lines::put_floor` meets its contract: the counts, the triangles and the sides, one behind another. Assumes nothing.
use Rattle.text_answer.proofs.Stores.{lines-put}
use Rattle.text_answer.proofs.lines.put_floor.Goals as goal

pub returns : goal.returns
returns c =
    lines-put c.args.c c.args.corners.now c.args.ends.now c.args.out.now c.put_counts.ensures c.put_triangles.ensures c.put_sides.ensures
