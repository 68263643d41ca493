-- `linear_hermitian::edge_one` meets its contract: each return opens the definition and rewrites it by the tests and the calls on its way.
use Rattle.linear_hermitian.specs.Work.{edge_c}
use Rattle.linear_hermitian.proofs.edge_one.Goals as goal

pub returns : goal.returns
unfolding edge_c
returns c = cc
