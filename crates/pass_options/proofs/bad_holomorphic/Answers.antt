-- `pass_options::bad_holomorphic` meets its contract: each return opens the definition and rewrites it by the tests and the calls on its way.
use Rattle.pass_options.specs.Options.{bad_holomorphic}
use Rattle.pass_options.proofs.bad_holomorphic.Goals as goal

pub returns-then-h : goal.returns-then-h
unfolding bad_holomorphic
returns-then-h c = rw (← c.is_finite.ensures, c.if-is_finite.true, c.if-h.true)

pub returns-then-is_finite : goal.returns-then-is_finite
unfolding bad_holomorphic
returns-then-is_finite c = rw (← c.is_finite.ensures, c.if-is_finite.true, c.if-h.false)

pub returns : goal.returns
unfolding bad_holomorphic
returns c = rw (← c.is_finite.ensures, c.if-is_finite.false)
