-- `linear_hermitian::euclidean_norm` meets its contract: each return opens the definition and rewrites it by the tests and the calls on its way; the laws are in proofs/Loops.
use Rattle.linear_hermitian.proofs.Loops.{norm-all}
use Rattle.linear_hermitian.proofs.euclidean_norm.Goals as goal

pub returns : goal.returns
returns c = search norm-all
