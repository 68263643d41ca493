-- `linear_conjugate_gradient::multiply` meets its contract: the engine's product is the definition's; the laws are in proofs/Iterations.
use Rattle.linear_conjugate_gradient.proofs.Iterations.{multiply-engine}
use Rattle.linear_cells.proofs.Loops.{apart}
use native.Mathlib.Omega.{arith}
use Rattle.linear_conjugate_gradient.proofs.multiply.Goals as goal

pub multiply-requires : goal.multiply-requires
multiply-requires c = record { product_room = omega (arith, apart); graph = c.requires.graph; packed = c.requires.engine.packed }

pub returns : goal.returns
returns c =
    multiply-engine _ _ _ _ _ c.requires.solver_room c.multiply.ensures
