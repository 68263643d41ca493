-- `refinement::pieces_of` meets its contract: each return opens the definition and rewrites it by the tests and the calls on its way; the laws are in proofs/Parts.
use Rattle.mesh.specs.Mesh.{mid}
use Rattle.edges.specs.Table.{cuts_in}
use Rattle.refinement.proofs.Parts.{rows-of}
use Rattle.refinement.proofs.pieces_of.Goals as goal

pub returns : goal.returns
returns c =
    let a = c.args in let t = c.corners-c.result in rw c.corners-c.ensures at
    (rows-of (mid a.points (cuts_in a.table a.numbers.now)) t.a t.b t.c c.middle-p.ensures
    c.middle-q.ensures c.middle-r.ensures c.split_triangle.ensures)
