-- `linear_pairs::term` meets its contract: each return rewrites the definition by the calls on its way.
use Rattle.linear_pairs.specs.Sums.{slot_term}
use Rattle.linear_pairs.proofs.term.Goals as goal

pub returns : goal.returns
unfolding slot_term
returns c = cc
