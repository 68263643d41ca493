-- `replay_solves::row::options_of` meets its contract: what is called answers by its definition.
use Rattle.replay_solves.proofs.row.options_of.Goals as goal

pub returns : goal.returns
returns c = simp (c.double-4.ensures, c.double-3.ensures, c.double-2.ensures, c.double.ensures, c.quarter.ensures, c.boundary_of-boundary.ensures)
