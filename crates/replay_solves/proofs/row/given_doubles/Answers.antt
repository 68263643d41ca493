-- `replay_solves::row::given_doubles` meets its contract: what is called answers by its definition, and each test decides its arm.
use borrow.Author.Rules.{rules}
use Rattle.replay_solves.specs.Row.{given_doubles}
use Rattle.replay_solves.proofs.row.given_doubles.Goals as goal

pub returns : goal.returns
unfolding given_doubles
returns c = (simp (c.count-3.ensures.0, c.count-2.ensures.0, c.count.ensures.0), search rules)
