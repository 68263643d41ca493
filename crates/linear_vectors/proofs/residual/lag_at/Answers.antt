-- `linear_vectors::residual::lag_at` meets its contract: each return opens the definition and rewrites it by the tests and the calls on its way; the law is in proofs/Sweeps.
use Rattle.linear_vectors.proofs.Sweeps.{lag-at-all}
use Rattle.linear_vectors.proofs.residual.lag_at.Goals as goal

pub returns : goal.returns
returns c = lag-at-all _ _ _ _ _ _ _ _ c.pair_at.ensures c.add_cell-t.ensures c.add_cell.ensures
