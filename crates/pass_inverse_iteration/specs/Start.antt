-- The start vector of the inverse iteration, lines 1558 to 1583 of the Rust: a constant direction plus a small ramp over the bounding box. Definitions only.
use Rattle.std.specs.Prelude.{ℕ, ◌+◌, ◌*◌, ◌≤◌, cond, List, length, get_or, Float}
use Rattle.std.specs.Float.{nan}
use Rattle.std.specs.Float.Ieee.{lt}
use Rattle.float.specs.Double.{lit, HALF, max_of, min_of, recip_of, ◌⊕◌, ◌⊖◌, ◌⊗◌}
use Rattle.complex.specs.declared.Complex.{Complex}
use Rattle.complex.specs.Complex.{cnew, cone, cadd, cscale}
use Rattle.linear_cells.specs.Iter.{iter}
use Rattle.linear_cells.specs.Region.{tab, Apart}
use Rattle.pass_inverse_iteration.specs.declared.start.Extent.{Extent}
use Rattle.pass_inverse_iteration.specs.declared.start.Ramp.{Ramp}

-- ---- the bounding box

-- `low = low.min(x)` and `high = high.max(x)` over the coordinates, from the infinities
unfoldable pub low_step : List Float → ℕ → Float → Float
low_step xs i low = min_of low (get_or xs i nan)

unfoldable pub high_step : List Float → ℕ → Float → Float
high_step xs i high = max_of high (get_or xs i nan)

unfoldable pub bounds_of : List Float → Extent
bounds_of xs = record {
  low = iter (low_step xs) (length xs) (lit 0x7ff0_0000_0000_0000);
  high = iter (high_step xs) (length xs) (lit 0xfff0_0000_0000_0000);
}

-- ---- the ramp

unfoldable pub center_of : Extent → Float
center_of b = HALF ⊗ (b.low ⊕ b.high)

unfoldable pub span_of : Extent → Extent → Float
span_of x y = max_of (x.high ⊖ x.low) (y.high ⊖ y.low)

-- `if span > 0.0 { span.recip() } else { 1.0 }`
unfoldable pub inverse_span : Float → Float
inverse_span span = cond (lt (lit 0) span) (recip_of span) (lit 0x3ff0_0000_0000_0000)

unfoldable pub ramp_of : Extent → Extent → Ramp
ramp_of x y = record { x = center_of x; y = center_of y; inverse = inverse_span (span_of x y) }

-- 1 plus a twentieth of the point's place in the box
unfoldable pub start_at : Ramp → Float → Float → Complex
start_at r px py = cadd cone (cscale (cnew ((px ⊖ r.x) ⊗ r.inverse) ((py ⊖ r.y) ⊗ r.inverse)) (lit 0x3fa9_9999_9999_999a))

unfoldable pub ramped_by : Ramp → List Float → List Float → List Complex
ramped_by r xs ys = tab (λ i. start_at r (get_or xs i nan) (get_or ys i nan)) (length xs)

unfoldable pub start_of : List Float → List Float → List Complex
start_of xs ys = ramped_by (ramp_of (bounds_of xs) (bounds_of ys)) xs ys

-- ---- lengths and offsets: `omega (arith, apart)` proves this record

pub record StartRoom (len x y at n : ℕ) : Type 0 where
  pub x-in : x + n ≤ len
  pub y-in : y + n ≤ len
  pub at_in : at + 2 * n ≤ len
  pub at_x : Apart at (2 * n) x n
  pub at_y : Apart at (2 * n) y n
