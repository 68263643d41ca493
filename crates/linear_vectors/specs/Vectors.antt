-- The Rust's loops over vectors in `conjugate_gradient` and `normalize_in_mass`, as lists of complex numbers. Definitions only.
use Rattle.std.specs.Prelude.{List, length, get_or, Float}
use Rattle.std.specs.Float.{nan}
use Rattle.float.specs.Double.{recip_of}
use Rattle.complex.specs.declared.Complex.{Complex}
use Rattle.complex.specs.Complex.{cnan, cadd, csub, cscale}
use Rattle.linear_cells.specs.Region.{tab}

-- f (y i) (x i) at each i
unfoldable pub zip_of : (Complex → Complex → Complex) → List Complex → List Complex → List Complex
zip_of f y x = tab (λ i. f (get_or y i cnan) (get_or x i cnan)) (length y)

-- y + x * k, and y - x * k
unfoldable pub add_scaled : Float → Complex → Complex → Complex
add_scaled k y x = cadd y (cscale x k)

unfoldable pub sub_scaled : Float → Complex → Complex → Complex
sub_scaled k y x = csub y (cscale x k)

-- 1 / d i at each i
unfoldable pub recips_of : List Float → List Float
recips_of d = tab (λ i. recip_of (get_or d i nan)) (length d)

-- x i * k at each i
unfoldable pub scaled_by : Float → List Complex → List Complex
scaled_by k x = tab (λ i. cscale (get_or x i cnan) k) (length x)
