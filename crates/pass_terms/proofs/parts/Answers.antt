-- `pass_terms::parts` meets its contract: each return opens the definition and rewrites it by the tests and the calls on its way.
use Rattle.pass_terms.specs.Terms.{parts_of}
use Rattle.pass_terms.proofs.parts.Goals as goal

pub returns : goal.returns
unfolding parts_of
returns c = simp (c.three_sides-energy_sides.ensures, c.three_sides-mass_sides.ensures)
