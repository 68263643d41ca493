-- `float::not_positive` meets its contract: each return opens the definition and rewrites it by the tests and the calls on its way.
use Rattle.float.specs.Double.{not_positive}
use Rattle.float.proofs.not_positive.Goals as goal

pub returns-then-not-is_finite : goal.returns-then-not-is_finite
unfolding not_positive
returns-then-not-is_finite c = rw (← c.is_finite.ensures, c.if-not-is_finite.true)

pub returns-else-not-is_finite : goal.returns-else-not-is_finite
unfolding not_positive
returns-else-not-is_finite c = rw (← c.is_finite.ensures, c.if-not-is_finite.false)
