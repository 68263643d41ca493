-- `pass_inverse_iteration::relative` meets its contract: the calls in order; the law is in proofs/Judgements.
use native.Mathlib.Omega.{arith}
use Rattle.linear_cells.proofs.Loops.{apart}
use Rattle.pass_inverse_iteration.proofs.Judgements.{relative-all}
use Rattle.pass_inverse_iteration.proofs.relative.Goals as goal

pub reduce-sums-requires : goal.reduce-sums-requires
reduce-sums-requires c = omega (arith, apart)

pub returns : goal.returns
returns c =
    relative-all _ _ _ c.requires _ _ c.reduce-sums.ensures c.max.ensures c.sqrt.ensures.value
