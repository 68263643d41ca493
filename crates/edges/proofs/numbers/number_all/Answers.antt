-- `edges::numbers::number_all` meets its contract: after i iterations the sides of the first i triangles are numbered; the laws are in proofs/Numbering.
use Rattle.edges.proofs.Numbering.{numbered-none, numbered_more}
use Rattle.edges.proofs.numbers.number_all.Goals as goal

pub loop-i-init : goal.loop-i-init
loop-i-init c = numbered-none _ _ _ _ _ c.requires.held

pub loop-i-preserved : goal.loop-i-preserved
loop-i-preserved c = numbered_more c.requires.numbering_room c.loop-i-test.true c.loop-i.invariant c.number_triangle-m.ensures
