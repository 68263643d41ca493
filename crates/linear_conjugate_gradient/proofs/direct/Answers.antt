-- `linear_conjugate_gradient::direct` meets its contract: the law is in proofs/Passes.
use Rattle.linear_conjugate_gradient.proofs.Passes.{direct-all}
use Rattle.linear_cells.proofs.Loops.{apart}
use native.Mathlib.Omega.{arith}
use Rattle.linear_conjugate_gradient.proofs.direct.Goals as goal

pub direct-requires : goal.direct-requires
direct-requires c = omega (arith, apart)

pub returns : goal.returns
returns c = direct-all _ _ _ c.requires _ _ c.direct.ensures
