-- `linear_pairs::adjacent_term` meets its contract: each return rewrites the definition by the calls on its way; the laws are in proofs/Sums.
use Rattle.linear_pairs.proofs.Sums.{adjacent-term}
use Rattle.linear_pairs.proofs.adjacent_term.Goals as goal

pub returns : goal.returns
returns c =
    adjacent-term _ _ _ _ _ _ c.requires.k_value c.load_number-j.ensures c.load.ensures c.load-2.ensures
    c.mul.ensures c.add.ensures c.load-3.ensures c.load-4.ensures
    c.mul-2.ensures c.add-2.ensures
