-- `mesh::half_sum` meets its contract: the definition is its body.
use borrow.Author.Rules.{rules}
use lib.Ieee.{mul}
use Rattle.mesh.specs.Area.{halfway}
use Rattle.mesh.proofs.half_sum.Goals as goal

pub returns : goal.returns
unfolding mul halfway
returns c = search rules
