-- `linear_vectors::residual::lagged` meets its contract: the loop keeps what `Inv-loop` says, and what is left to do falls at each iteration; the laws are in proofs/Sweeps.
use Rattle.linear_vectors.proofs.Sweeps.{lag-none, lag-again, lag-done}
use native.Mathlib.Omega.{arith}
use borrow.Author.Rules.{rules}
use Rattle.linear_vectors.proofs.residual.lagged.Goals as goal

-- an even number of places is added up

pub loop-i-init : goal.loop-i-init
loop-i-init c = (omega arith, omega arith, omega arith, omega arith, rw c.no_sums-s.ensures (lag-none _ _ _ _ _ _))

pub lag_at-s-requires : goal.lag_at-s-requires
lag_at-s-requires c = omega arith

pub loop-i-smaller : goal.loop-i-smaller
loop-i-smaller c = omega arith

pub loop-i-preserved : goal.loop-i-preserved
loop-i-preserved c = search (lag-again, rules)

pub returns : goal.returns
returns c = search lag-done
