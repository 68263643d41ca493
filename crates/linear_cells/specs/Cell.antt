-- Complex vectors in a flat list of doubles. A vector of n cells at `base` is split: its n real parts, and then its n imaginary parts.
-- `get_c`, `set_c`, `region_c` and `put_c` hide this from every other definition.
use Rattle.std.specs.Prelude.{ℕ, ◌+◌, List, ◌++◌, map, get_or, set, Float}
use Rattle.std.specs.Float.{nan}
use Rattle.complex.specs.declared.Complex.{Complex}
use Rattle.linear_cells.specs.Region.{tab, put}

-- cell i of the vector, and w with z there
unfoldable pub get_c : List Float → ℕ → ℕ → ℕ → Complex
get_c w base n i = record { re = get_or w (base + i) nan; im = get_or w (base + n + i) nan }

unfoldable pub set_c : List Float → ℕ → ℕ → ℕ → Complex → List Float
set_c w base n i z = set (set w (base + i) z.re) (base + n + i) z.im

-- the parts of a complex number
abbrev pub re_of : Complex → Float
re_of z = z.re

abbrev pub im_of : Complex → Float
im_of z = z.im

-- the real parts of a list, and then its imaginary parts
unfoldable pub flat : List Complex → List Float
flat v = map re_of v ++ map im_of v

-- the n cells of w from `base`, and w with the vector v at `base`
unfoldable pub region_c : List Float → ℕ → ℕ → List Complex
region_c w base n = tab (get_c w base n) n

unfoldable pub put_c : List Float → ℕ → List Complex → List Float
put_c w base v = put w base (flat v)
