-- `replay_solves::row::has_minus_zero` meets its contract: what is called answers by its definition, and each test decides its arm.
use Rattle.replay_solves.specs.Row.{has_minus_zero}
use Rattle.replay_solves.proofs.row.has_minus_zero.Goals as goal

pub returns : goal.returns
unfolding has_minus_zero
returns c = simp (c.has_word.ensures, c.count-3.ensures.0, c.count-2.ensures.0, c.count.ensures.0, c.given_doubles.ensures.0)
