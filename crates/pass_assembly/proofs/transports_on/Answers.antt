-- `pass_assembly::transports_on` meets its contract: each return opens the definition and rewrites it by the tests and the calls on its way.
use Rattle.pass_assembly.specs.Assembly.{transports_on}
use Rattle.pass_assembly.proofs.transports_on.Goals as goal

pub returns : goal.returns
unfolding transports_on
returns c = simp (c.directed_sides.ensures, c.load-3.ensures, c.load-2.ensures, c.load.ensures)
