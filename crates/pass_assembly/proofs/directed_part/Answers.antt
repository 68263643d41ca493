-- `pass_assembly::directed_part` meets its contract: each return opens the definition and rewrites it by the tests and the calls on its way.
use Rattle.pass_assembly.proofs.directed_part.Goals as goal

pub returns : goal.returns
returns c = simp c.directed_sides.ensures
