-- `pass_systems::fix_boundary` meets its contract: the calls in order; the laws are in proofs/Made.
use native.Mathlib.Omega.{arith}
use Rattle.linear_cells.proofs.Loops.{apart}
use Rattle.pass_systems.proofs.Made.{rows-room, fixed-all}
use borrow.Author.Rules.{rules}
use Rattle.pass_systems.proofs.fix_boundary.Goals as goal

pub couple-requires : goal.couple-requires
couple-requires c = (c.requires.graph.1, omega (arith, apart))

pub dirichlet_rows-requires : goal.dirichlet_rows-requires
dirichlet_rows-requires c = record { matrix_room = rows-room _ (search rules) c.requires.target_room; graph = c.requires.graph }

pub returns : goal.returns
returns c =
    fixed-all _ _ _ _ _ c.requires.target_room c.couple.ensures c.dirichlet_rows.ensures
