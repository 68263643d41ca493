-- `linear_adjacency::place` meets its contract: each return rewrites the definition by the calls on its way.
use native.Mathlib.Omega.{arith}
use Prim.Native.Nat.{◌+◌}
use lib.ListN.{length-set}
use Rattle.linear_adjacency.specs.Build.{placed}
use Rattle.linear_adjacency.proofs.place.Goals as goal

pub overflow_cast-w : goal.overflow_cast-w
overflow_cast-w c = omega (arith, c.slice_known-2-1.given (c.args.at + c.args.v))

pub bounds-w-at-3 : goal.bounds-w-at-3
bounds-w-at-3 c = simp length-set (omega arith)

pub returns : goal.returns
unfolding placed
returns c = cc
