-- `pass_terms::holonomy` meets its contract: each return opens the definition and rewrites it by the tests and the calls on its way.
use Rattle.pass_terms.specs.Terms.{holonomy_of}
use Rattle.pass_terms.proofs.holonomy.Goals as goal

pub returns : goal.returns
unfolding holonomy_of
returns c = cc
