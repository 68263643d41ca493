-- What the passes require of the work slice, and the iterations of their loops on the flat list.
use Rattle.std.specs.Prelude.{List, ℕ, ◌+◌, ◌*◌, ◌≤◌, get_or, Float}
use Rattle.std.specs.Float.{nan}
use Rattle.complex.specs.Complex.{cscale}
use Rattle.linear_cells.specs.Region.{Apart}
use Rattle.linear_cells.specs.Cell.{get_c, set_c}
use Rattle.linear_vectors.specs.declared.Next.{Next}
use Rattle.linear_vectors.specs.Vectors.{add_scaled}

-- ---- lengths and offsets: `omega (arith, apart)` proves this record

pub record DirectRoom (len x p r inverse n : ℕ) : Type 0 where
  pub x-in : x + 2 * n ≤ len
  pub p-in : p + 2 * n ≤ len
  pub r-in : r + 2 * n ≤ len
  pub inverse-in : inverse + n ≤ len
  pub x-p : Apart x (2 * n) p (2 * n)
  pub x-r : Apart x (2 * n) r (2 * n)
  pub x-inverse : Apart x (2 * n) inverse n
  pub p-r : Apart p (2 * n) r (2 * n)
  pub p-inverse : Apart p (2 * n) inverse n

-- ---- direct: the next x and direction at i, and w with them

unfoldable pub next_c : List Float → ℕ → ℕ → ℕ → ℕ → ℕ → Float → Float → ℕ → Next
next_c w x p r inverse n alpha beta i = record {
  x = add_scaled alpha (get_c w x n i) (get_c w p n i);
  p = add_scaled beta (cscale (get_c w r n i) (get_or w (inverse + i) nan)) (get_c w p n i);
}

unfoldable pub direct_c : List Float → ℕ → ℕ → ℕ → ℕ → ℕ → Float → Float → ℕ → List Float
direct_c w x p r inverse n alpha beta i =
    set_c (set_c w x n i (next_c w x p r inverse n alpha beta i).x) p n i (next_c w x p r inverse n alpha beta i).p
