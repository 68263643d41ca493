-- `linear_cells::load` meets its contract: the return opens the definition and rewrites it by the calls on its way.
use Rattle.linear_cells.specs.Cell.{get_c}
use Rattle.linear_cells.proofs.load.Goals as goal

pub returns : goal.returns
unfolding get_c
returns c = cc
