-- `pass_assembly::directed_sides` meets its contract: each return opens the definition and rewrites it by the tests and the calls on its way.
use Rattle.pass_assembly.specs.Assembly.{directed_sides}
use Rattle.pass_assembly.proofs.directed_sides.Goals as goal

pub returns : goal.returns
unfolding directed_sides
returns c = simp (c.directed_to-3.ensures, c.directed_to-2.ensures, c.directed_to.ensures)
