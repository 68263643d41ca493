-- `floor::not_finite_or_below_zero` meets its contract: each return opens the definition and rewrites it by the tests and the calls on its way.
use Rattle.floor.specs.Checks.{not_finite_or_below_zero}
use Rattle.floor.proofs.not_finite_or_below_zero.Goals as goal

pub returns-then-not-is_finite : goal.returns-then-not-is_finite
unfolding not_finite_or_below_zero
returns-then-not-is_finite c = rw (← c.is_finite.ensures, c.if-not-is_finite.true)

pub returns-else-not-is_finite : goal.returns-else-not-is_finite
unfolding not_finite_or_below_zero
returns-else-not-is_finite c = rw (← c.is_finite.ensures, c.if-not-is_finite.false)
