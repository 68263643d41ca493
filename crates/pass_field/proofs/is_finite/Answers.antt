-- `pass_field::is_finite` meets its contract: each return opens the definition and rewrites it by the test.
use Rattle.pass_field.specs.Field.{finite}
use Rattle.pass_field.proofs.is_finite.Goals as goal

pub returns-then-is_finite : goal.returns-then-is_finite
unfolding finite
returns-then-is_finite c = simp (← c.is_finite.ensures, c.if-is_finite.true, c.is_finite-then-is_finite.ensures)

pub returns : goal.returns
unfolding finite
returns c = simp (← c.is_finite.ensures, c.if-is_finite.false)
