-- `linear_pairs::single_at` meets its contract: each return rewrites the definition by the calls on its way; the laws are in proofs/Sums.
use Rattle.linear_pairs.proofs.Sums.{single-all}
use Rattle.linear_pairs.proofs.single_at.Goals as goal

pub returns : goal.returns
returns c =
    single-all _ _ _ _ _ _ _ _ c.load_number-k.ensures c.load_number-l.ensures c.load-z.ensures c.load_real.ensures c.scale.ensures c.terms-s.ensures
    c.store.ensures
