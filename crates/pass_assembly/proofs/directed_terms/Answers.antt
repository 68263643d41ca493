-- `pass_assembly::directed_terms` meets its contract: each return opens the definition and rewrites it by the tests and the calls on its way.
use Rattle.pass_assembly.specs.Assembly.{directed_terms}
use Rattle.pass_assembly.proofs.directed_terms.Goals as goal

pub returns : goal.returns
unfolding directed_terms
returns c = simp (c.directed_part-2.ensures, c.directed_part.ensures)
