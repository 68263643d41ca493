-- `linear_conjugate_gradient::advance` meets its contract: the law is in proofs/Passes.
use Rattle.linear_conjugate_gradient.proofs.Passes.{advance-all}
use Rattle.linear_cells.proofs.Loops.{apart}
use native.Mathlib.Omega.{arith}
use Rattle.linear_conjugate_gradient.proofs.advance.Goals as goal

pub advance-requires : goal.advance-requires
advance-requires c = omega (arith, apart)

pub returns : goal.returns
returns c = advance-all _ _ _ c.requires _ c.advance.ensures
