-- `pass_branches::weak_field` meets its contract: the system, and its solution; the law is in proofs/Modes.
use Rattle.pass_branches.proofs.Modes.{same_branch, leaves-system}
use borrow.Author.Rules.{rules}
use Rattle.pass_branches.proofs.weak_field.Goals as goal

pub solve_system-requires : goal.solve_system-requires
solve_system-requires c = record { branch_room = same_branch _ c.requires.branch_room.0 (search rules); graph = c.requires.graphs.0.energy-graph; copy_room = c.requires.copy_room }

pub returns : goal.returns
returns c =
    leaves-system _ c.requires.branch_room.0 c.weak_system.ensures c.solve_system.ensures
