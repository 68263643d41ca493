-- `replay_solves::row::asked_of` meets its contract: what is called answers by its definition.
use Rattle.replay_solves.proofs.row.asked_of.Goals as goal

pub returns : goal.returns
returns c = simp (c.word.ensures, c.double.ensures, c.quarter.ensures)
