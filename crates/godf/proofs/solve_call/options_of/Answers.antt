-- `godf::solve_call::options_of` meets its contract: each return opens the definition and rewrites it by the tests and the calls on its way.
use Rattle.godf.specs.Solve.{options_of}
use Rattle.godf.proofs.solve_call.options_of.Goals as goal

pub returns : goal.returns
unfolding options_of
returns c = cc c.boundary_of-boundary.ensures
