-- The terms of a residual's two products in the Rust's `conjugate_gradient`. Definitions only.
use Rattle.std.specs.Prelude.{List, length, get_or, Float}
use Rattle.std.specs.Float.{nan}
use Rattle.complex.specs.declared.Complex.{Complex}
use Rattle.complex.specs.Complex.{cnan, cscale}
use Rattle.linear_cells.specs.Region.{tab}
use Rattle.linear_hermitian.specs.Work.{re_term}

-- the terms of r's product with itself, and of its product with the preconditioned residual: a pair of reals at each i
unfoldable pub products_at : Complex → Float → Complex
products_at z k = record { re = re_term z z; im = re_term (cscale z k) z }

unfoldable pub products_of : List Float → List Complex → List Complex
products_of inverse r = tab (λ i. products_at (get_or r i cnan) (get_or inverse i nan)) (length r)
