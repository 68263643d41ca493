-- `pass_terms::energy_corner` meets its contract: each return opens the definition and rewrites it by the tests and the calls on its way.
use Rattle.pass_terms.specs.Terms.{energy_corner}
use Rattle.pass_terms.proofs.energy_corner.Goals as goal

pub returns-then-accurate : goal.returns-then-accurate
unfolding energy_corner
returns-then-accurate c = simp (c.dirichlet_diagonal.ensures, c.if-accurate.true)

pub returns : goal.returns
unfolding energy_corner
returns c = simp (c.flat_corner.ensures, c.if-accurate.false)
