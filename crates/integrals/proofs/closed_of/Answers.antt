-- `integrals::closed_of` meets its contract: each return opens the definition and rewrites it by the tests and the calls on its way.
use Rattle.integrals.specs.Factors.{closed_of}
use Rattle.integrals.proofs.closed_of.Goals as goal

pub returns : goal.returns
unfolding closed_of
returns c = cc
