-- `pass_solution::solve` meets its contract: the answer taken apart; the laws are in proofs/Stages.
use Rattle.pass_solution.proofs.Stages.{solve-done, solve-gave}
use Rattle.pass_solution.proofs.solve.Goals as goal

pub returns-in-Ok : goal.returns-in-Ok
returns-in-Ok c = search solve-done

pub returns-in-Err : goal.returns-in-Err
returns-in-Err c = search solve-gave
