-- `pass_solution::inner_most` meets its contract: by arithmetic, with the definition opened.
use native.Mathlib.Omega.{arith}
use Rattle.pass_solution.specs.Solution.{inner_most}
use Rattle.pass_solution.proofs.inner_most.Goals as goal

pub returns-then-n-lt-BOUND_FROM : goal.returns-then-n-lt-BOUND_FROM
unfolding inner_most
returns-then-n-lt-BOUND_FROM c = omega arith

pub returns : goal.returns
unfolding inner_most
returns c = omega arith
