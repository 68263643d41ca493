-- `replay_solves::row::count` meets its contract: what is called answers by its definition, and each test decides its arm.
use borrow.Author.Rules.{rules}
use Rattle.replay_solves.specs.Row.{count_at}
use Rattle.replay_solves.proofs.row.count.Goals as goal

pub returns : goal.returns
unfolding count_at
returns c = (simp (c.at_most.ensures.0, c.quarter.ensures), search rules)
