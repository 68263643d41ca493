-- `linear_vectors::residual::add_cell` meets its contract: each return opens the definition and rewrites it by the tests and the calls on its way.
use Rattle.linear_vectors.specs.ResidualWork.{add_c}
use Rattle.linear_vectors.proofs.residual.add_cell.Goals as goal

pub returns : goal.returns
unfolding add_c
returns c = cc
