-- `edges::numbers::number_triangles` meets its contract: over a table that it clears itself; the laws are in proofs/Numbering.
use Rattle.edges.proofs.Numbering.{numbered-cleared}
use Rattle.edges.proofs.numbers.number_triangles.Goals as goal

pub returns : goal.returns
returns c =
    numbered-cleared c.requires c.clear.ensures.0 c.number_all.ensures
