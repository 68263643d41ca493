-- `pass_solution::linear_most` meets its contract: by arithmetic, with the definitions opened.
use native.Mathlib.Omega.{arith}
use Rattle.pass_solution.specs.Solution.{inner_most, linear_most}
use Rattle.pass_solution.proofs.linear_most.Goals as goal

pub returns-then-iterations-most : goal.returns-then-iterations-most
unfolding inner_most linear_most
returns-then-iterations-most c = omega arith

pub returns-then-iterations-lt-COUNT_BOUND : goal.returns-then-iterations-lt-COUNT_BOUND
unfolding inner_most linear_most
returns-then-iterations-lt-COUNT_BOUND c = omega arith

pub returns : goal.returns
unfolding inner_most linear_most
returns c = omega arith
