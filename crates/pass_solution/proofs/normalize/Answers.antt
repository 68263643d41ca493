-- `pass_solution::normalize` meets its contract: the answer taken apart; the laws are in proofs/Stages.
use native.Mathlib.Omega.{arith}
use Rattle.linear_cells.proofs.Loops.{apart}
use Rattle.pass_solution.proofs.Stages.{normalize-done, normalize-gave}
use borrow.Author.Rules.{rules}
use Rattle.pass_solution.proofs.normalize.Goals as goal

pub normalize_in_mass-requires : goal.normalize_in_mass-requires
normalize_in_mass-requires c = record { apply_room = omega (arith, apart); graph = search rules }

pub returns-in-Ok : goal.returns-in-Ok
returns-in-Ok c = search normalize-done

pub returns-in-Err : goal.returns-in-Err
returns-in-Err c = search normalize-gave
