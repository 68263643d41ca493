-- `linear_conjugate_gradient::update` meets its contract: the law is in proofs/Passes.
use Rattle.linear_conjugate_gradient.proofs.Passes.{update_all}
use Rattle.linear_cells.proofs.Loops.{apart}
use native.Mathlib.Omega.{arith}
use Rattle.linear_conjugate_gradient.proofs.update.Goals as goal

pub reduce-requires : goal.reduce-requires
reduce-requires c = omega (arith, apart)

pub returns : goal.returns
returns c = update_all _ _ _ c.requires c.reduce.ensures
