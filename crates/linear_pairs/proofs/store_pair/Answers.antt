-- `linear_pairs::store_pair` meets its contract: each return rewrites the definition by the calls on its way; the laws are in proofs/Sums.
use Rattle.linear_pairs.proofs.Sums.{store-all}
use Rattle.linear_pairs.proofs.store_pair.Goals as goal

pub returns : goal.returns
returns c =
    store-all _ _ _ _ _ c.requires.0 c.store_real.ensures c.store_real-2.ensures c.store_real-3.ensures c.store_real-4.ensures
