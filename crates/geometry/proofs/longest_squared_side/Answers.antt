-- `geometry::longest_squared_side` meets its contract: each return opens the definition and rewrites it by the tests and the calls on its way.
use Rattle.geometry.specs.Triangle.{longest}
use Rattle.geometry.proofs.longest_squared_side.Goals as goal

pub returns : goal.returns
unfolding longest
returns c = simp (c.max-2.ensures, c.squared_side-3.ensures, c.max.ensures, c.squared_side-2.ensures, c.squared_side.ensures)
