-- `integrals::dirichlet_diagonal` meets its contract: each return opens the definition and rewrites it by the tests and the calls on its way.
use lib.Ieee.{of_int, of_bits}
use Rattle.integrals.specs.Integrals.{diagonal_at}
use Rattle.integrals.proofs.dirichlet_diagonal.Goals as goal

pub returns : goal.returns
unfolding diagonal_at of_int of_bits
returns c =
    simp (
      c.dot2-4.ensures,
      c.dot2-3.ensures,
      c.dot2-2.ensures,
      c.dot2.ensures,
      c.sub2-opposite.ensures,
      c.sub2-p_cv.ensures,
      c.sub2-p_cu.ensures,
    )
