-- `godf::solve_call::godf_solve` meets its contract: each return opens the definition and rewrites it by the tests and the calls on its way.
use Rattle.godf.proofs.Told.{solve-told}
use Rattle.godf.proofs.solve_call.godf_solve.Goals as goal

pub returns : goal.returns
returns c =
    solve-told _ _ _ _ _ c.options_of-o.ensures c.asked_of-a.ensures c.solve-outcome.ensures c.tell_outcome.ensures.0 c.tell_outcome.ensures.1
