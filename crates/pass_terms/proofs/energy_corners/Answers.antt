-- `pass_terms::energy_corners` meets its contract: each return opens the definition and rewrites it by the tests and the calls on its way.
use Rattle.pass_terms.specs.Terms.{energy_corners}
use Rattle.pass_terms.proofs.energy_corners.Goals as goal

pub returns : goal.returns
unfolding energy_corners
returns c =
    simp (c.energy_corner-3.ensures, c.energy_corner-2.ensures, c.energy_corner.ensures)
