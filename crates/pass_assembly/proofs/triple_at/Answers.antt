-- `pass_assembly::triple_at` meets its contract: each return opens the definition and rewrites it by the tests and the calls on its way.
use Rattle.pass_assembly.proofs.triple_at.Goals as goal

pub returns : goal.returns
returns c = simp (c.index-3.ensures, c.index-2.ensures, c.index.ensures, c.corners-c.ensures)
