-- `pass_boundary::normal` meets its contract: each return opens the definition and rewrites it by the tests and the calls on its way.
use mathlib.Core.Path.{◌∙◌}
use Rattle.pass_boundary.specs.Boundary.{normalised}
use Rattle.pass_boundary.proofs.normal.Goals as goal

pub returns-then-norm : goal.returns-then-norm
unfolding normalised
returns-then-norm c = c.scale.ensures ∙ rw (c.recip.ensures, ← c.norm-norm.ensures, ← c.is_finite.ensures, c.if-is_finite.true, c.if-norm.true)

pub returns-then-is_finite : goal.returns-then-is_finite
unfolding normalised
returns-then-is_finite c = rw (← c.norm-norm.ensures, ← c.is_finite.ensures, c.if-is_finite.true, c.if-norm.false)

pub returns : goal.returns
unfolding normalised
returns c = rw (← c.norm-norm.ensures, ← c.is_finite.ensures, c.if-is_finite.false)
