-- `linear_cells::store` meets its contract: the return opens the definition and rewrites it by the calls on its way.
use Rattle.linear_cells.specs.Cell.{set_c}
use Rattle.linear_cells.proofs.store.Goals as goal

pub returns : goal.returns
unfolding set_c
returns c = cc
