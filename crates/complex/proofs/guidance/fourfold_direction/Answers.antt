-- `complex::guidance::fourfold_direction` meets its contract: each return opens the definition and rewrites it by the tests and the calls on its way.
use Rattle.complex.specs.Guidance.{fourfold}
use Rattle.complex.proofs.guidance.fourfold_direction.Goals as goal

pub returns : goal.returns
unfolding fourfold
returns c = c.from_angle.ensures
