-- What `reduce` requires of the work slice and leaves there, and the iterations of its loops on the flat list.
use Rattle.std.specs.Prelude.{◌≡◌, List, ℕ, ◌+◌, ◌*◌, ◌≤◌, ◌<◌, get_or, Float}
use Rattle.std.specs.Float.{nan}
use Rattle.float.specs.Double.{lit, ◌⊕◌}
use Rattle.linear_cells.specs.Region.{region, Apart}
use Rattle.linear_cells.specs.Cell.{get_c, set_c, region_c, put_c}
use Rattle.linear_hermitian.specs.Hermitian.{dot_of, scaled}
use Rattle.linear_vectors.specs.Vectors.{zip_of, sub_scaled}
use Rattle.linear_vectors.specs.declared.residual.Sums.{Sums}
use Rattle.linear_vectors.specs.declared.residual.Term.{Term}
use Rattle.linear_vectors.specs.Residual.{products_at, products_of}

-- ---- lengths and offsets: `omega (arith, apart)` proves these records

pub record ReduceRoom (len r q inverse n : ℕ) : Type 0 where
  pub r-in : r + 2 * n ≤ len
  pub q-in : q + 2 * n ≤ len
  pub inverse-in : inverse + n ≤ len
  pub r-q : Apart r (2 * n) q (2 * n)
  pub r-inverse : Apart r (2 * n) inverse n
  pub q-inverse : Apart q (2 * n) inverse n

-- where an iteration of `reduce` reads and writes
pub record TermIn (len r q inverse n i : ℕ) : Type 0 where
  pub i-in : i < n
  pub ri-in : r + n + i < len
  pub qi-in : q + n + i < len
  pub inversei-in : inverse + i < len

-- ---- reduce: r after its step with its two products, whose terms are left at q

pub record Reduced (w w' : List Float) (r q inverse n : ℕ) (alpha : Float) (s : Sums) : Type 0 where
  pub work : w' ≡ put_c (put_c w r (zip_of (sub_scaled alpha) (region_c w r n) (region_c w q n))) q
      (products_of (region nan w inverse n) (zip_of (sub_scaled alpha) (region_c w r n) (region_c w q n)))
  pub square : s.square ≡ (dot_of (zip_of (sub_scaled alpha) (region_c w r n) (region_c w q n)) (zip_of (sub_scaled alpha) (region_c w r n) (region_c w q n))).re
  pub next : s.next
      ≡ (dot_of (scaled (region nan w inverse n) (zip_of (sub_scaled alpha) (region_c w r n) (region_c w q n))) (zip_of (sub_scaled alpha) (region_c w r n) (region_c w q n))).re

-- one place
unfoldable pub term_at : List Float → ℕ → ℕ → ℕ → ℕ → Float → ℕ → Term
term_at w r q inverse n alpha i = record {
  residual = sub_scaled alpha (get_c w r n i) (get_c w q n i);
  products = products_at (sub_scaled alpha (get_c w r n i) (get_c w q n i)) (get_or w (inverse + i) nan);
}

unfoldable pub put_term : List Float → ℕ → ℕ → ℕ → ℕ → Term → List Float
put_term w r q n i t = set_c (set_c w r n i t.residual) q n i t.products

unfoldable pub term_step : ℕ → ℕ → ℕ → ℕ → Float → ℕ → ℕ → List Float → List Float
term_step r q inverse n alpha first k w = put_term w r q n (first + k) (term_at w r q inverse n alpha (first + k))

-- places i and i + 1
unfoldable pub put_pair : List Float → ℕ → ℕ → ℕ → ℕ → Term → Term → List Float
put_pair w r q n i t u = set_c (set_c (set_c (set_c w r n i t.residual) r n (i + 1) u.residual) q n i t.products) q n (i + 1) u.products

-- the sums, with the terms at i
abbrev pub no_sums : Sums
no_sums = record { square = lit 0; next = lit 0 }

unfoldable pub add_c : List Float → ℕ → ℕ → ℕ → Sums → Sums
add_c w q n i s = record { square = s.square ⊕ (get_c w q n i).re; next = s.next ⊕ (get_c w q n i).im }

unfoldable pub add_step : List Float → ℕ → ℕ → ℕ → ℕ → Sums → Sums
add_step w q n first k s = add_c w q n (first + k) s

-- places i + 2 and i + 3 are put, and then the terms at i and i + 1 are added: pair by pair, for i = 2 k
pub record Lag : Type 0 where
  pub work : List Float
  pub sums : Sums

abbrev pub lag : List Float → Sums → Lag
lag w s = record { work = w; sums = s }

unfoldable pub pair_step : ℕ → ℕ → ℕ → ℕ → Float → ℕ → List Float → List Float
pair_step r q inverse n alpha i w = put_pair w r q n i (term_at w r q inverse n alpha i) (term_at w r q inverse n alpha (i + 1))

unfoldable pub lag_at : ℕ → ℕ → ℕ → ℕ → Float → ℕ → Lag → Lag
lag_at r q inverse n alpha i a =
    lag
    (pair_step r q inverse n alpha (i + 2) a.work)
    (add_c (pair_step r q inverse n alpha (i + 2) a.work) q n (i + 1) (add_c (pair_step r q inverse n alpha (i + 2) a.work) q n i a.sums))

unfoldable pub lag_step : ℕ → ℕ → ℕ → ℕ → Float → ℕ → Lag → Lag
lag_step r q inverse n alpha k a = lag_at r q inverse n alpha (2 * k) a
