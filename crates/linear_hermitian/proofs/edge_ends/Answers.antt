-- `linear_hermitian::edge_ends` meets its contract: each return opens the definition and rewrites it by the tests and the calls on its way.
use Rattle.linear_hermitian.specs.Work.{ends_c}
use Rattle.linear_hermitian.proofs.edge_ends.Goals as goal

pub returns : goal.returns
unfolding ends_c
returns c = cc
