-- `linear_pairs::pair_term` meets its contract: each return rewrites the definition by the calls on its way.
use Rattle.linear_pairs.specs.Sums.{pair_term}
use Rattle.linear_pairs.proofs.pair_term.Goals as goal

pub term-requires : goal.term-requires
term-requires c = c.requires.0

pub term-requires-2 : goal.term-requires-2
term-requires-2 c = c.requires.1

pub returns : goal.returns
unfolding pair_term
returns c = cc
