-- `floor::bad_point` meets its contract: each return opens the definition and rewrites it by the tests and the calls on its way.
use Rattle.floor.specs.Checks.{bad_point}
use Rattle.floor.proofs.bad_point.Goals as goal

pub returns-then-not-is_finite : goal.returns-then-not-is_finite
unfolding bad_point
returns-then-not-is_finite c = rw (← c.read.ensures, ← c.is_finite.ensures, c.if-not-is_finite.true)

pub returns-else-not-is_finite : goal.returns-else-not-is_finite
unfolding bad_point
returns-else-not-is_finite c = rw (← c.read.ensures, ← c.read-else-not-is_finite.ensures, ← c.is_finite.ensures, ← c.is_finite-else-not-is_finite.ensures, c.if-not-is_finite.false)
