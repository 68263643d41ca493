-- `replay_solves::row::has_nan` meets its contract: what is called answers by its definition, and each test decides its arm.
use Rattle.replay_solves.specs.Row.{has_nan}
use Rattle.replay_solves.proofs.row.has_nan.Goals as goal

pub returns-then-has_nan : goal.returns-then-has_nan
unfolding has_nan
returns-then-has_nan c = simp (← c.has_nan.ensures, c.if-has_nan.true)

pub returns : goal.returns
unfolding has_nan
returns c = simp (← c.has_nan.ensures, c.if-has_nan.false, c.has_nan-2.ensures, c.given_doubles.ensures.0)
