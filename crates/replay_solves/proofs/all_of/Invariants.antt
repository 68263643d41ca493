-- What is left of the list falls with each row.
use Rattle.replay_solves.proofs.all_of.Given as goal

abbrev pub decreases-loop-at : goal.decreases-loop-at
decreases-loop-at g l = l.at.left
