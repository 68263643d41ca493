-- `linear_conjugate_gradient::begin` meets its contract: each return opens the definition and rewrites it by the tests and the calls on its way; the laws are in proofs/Iterations.
use Rattle.linear_conjugate_gradient.proofs.Iterations.{begin-all}
use Rattle.linear_cells.proofs.Loops.{apart}
use native.Mathlib.Omega.{arith}
use Rattle.linear_conjugate_gradient.proofs.begin.Goals as goal

pub invert-requires : goal.invert-requires
invert-requires c = omega (arith, apart)

pub scale-requires : goal.scale-requires
scale-requires c = omega (arith, apart)

pub returns : goal.returns
returns c = search begin-all
