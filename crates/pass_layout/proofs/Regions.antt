-- The regions of a pass that fits come one after the other, and its floor is what the cells before its areas and before its counter-clockwise corners
-- hold: it stays while nothing there is written. Assumes nothing.
use Prim.Native.Nat.{ℕ, ◌+◌, ◌*◌, ◌/◌, ◌%◌, ◌^◌, ◌≤◌, ◌<◌}
use native.Mathlib.Decide.{ℕ_discrete}
use native.Mathlib.Omega.{arith}
use borrow.Author.Tests.{lt-ltb, le-ltb}
use mathlib.Core.Path.{◌≡◌, refl}
use mathlib.Core.List.{List}
use lib.ListN.{get_or}
use lib.Ieee.{Float, nan}
use Rattle.linear_cells.specs.Region.{region}
use Rattle.linear_cells.proofs.Loops.{tab-ext}
use Rattle.linear_packing.specs.Pack.{PackRoom}
use Rattle.edges.proofs.Numbering.{tris-same}
use Rattle.pass_layout.specs.declared.Base.{Base}
use Rattle.pass_layout.specs.declared.Layout.{Layout}
use Rattle.pass_layout.specs.Layout.{Small, stride_of, layout_of, Fits, Ordered}
use Rattle.pass_layout.specs.Matrices.{packing_at, source_at, Countable}
use Rattle.pass_layout.specs.Work.{floor_in}

-- the two branches of the stride
pub stride-none : (n : ℕ) → n < 512 → 2 * n ≡ stride_of n
unfolding stride_of
stride-none n l = rw (lt-ltb n 512 l)

pub stride-gap : (n : ℕ) → 512 ≤ n → 2 * n + (104 + 510 * n) % 512 ≡ stride_of n
unfolding stride_of
stride-gap n l = rw (le-ltb n 512 l)

-- two successive vectors do not overlap, and the gap between them is at most half as long as a vector
pub stride-between : (n : ℕ) → (2 * n ≤ stride_of n) × (stride_of n ≤ 3 * n)
stride-between n = between (ℕ_discrete (n / 512) 0)
  where
    between : Dec (n / 512 ≡ 0) → (2 * n ≤ stride_of n) × (stride_of n ≤ 3 * n)
    between (yes z) = let e : 2 * n ≡ stride_of n = stride-none n (omega arith) in (omega arith, omega arith)
    between (no f) = let e : 2 * n + (104 + 510 * n) % 512 ≡ stride_of n = stride-gap n (omega (arith, f)) in (omega arith, omega (arith, f))

-- no place of a vector overflows
pub vectors-fit : (at : Base) → Small at → {stride : ℕ} → stride ≡ stride_of at.points → at.reals + 12 * at.points + 31 * at.triangles + 4 * stride < 2 ^ 40
vectors-fit at p e = omega (arith, (stride-between at.points).1, p.reals-small, p.points-small, p.triangles-small)

-- what the gap is for: the second of two successive vectors begins 104 numbers further on in its page
pub stride-apart : (n : ℕ) → 512 ≤ n → stride_of n % 512 ≡ 104
stride-apart n l = omega (arith, stride-gap n l)

pub fits-ordered : (at : Base) {reals words : ℕ} → Fits at reals words → Ordered (layout_of at) reals words
unfolding layout_of
fits-ordered at f = record {
  few-points = f.small.points-small;
  few-triangles = f.small.triangles-small;
  angles-in = omega arith;
  x-in = omega arith;
  y-in = omega arith;
  sizes-in = omega arith;
  guidance-in = omega arith;
  areas-in = omega arith;
  gradients-in = omega arith;
  transports-in = omega arith;
  mass-in = omega arith;
  mass-off-in = omega arith;
  energy-in = omega arith;
  energy-off-in = omega arith;
  packed-in = omega arith;
  targets-in = omega arith;
  iterate-in = omega (arith, (stride-between at.points).0);
  residual-in = omega (arith, (stride-between at.points).0);
  direction-in = omega (arith, (stride-between at.points).0);
  applied-in = omega (arith, (stride-between at.points).0);
  inverse-in = omega (arith, f.reals-fit, (stride-between at.points).1);
  given-in = omega arith;
  wound-in = omega arith;
  numbers-in = omega arith;
  table-in = omega arith;
  some-buckets = omega arith;
  point-buckets = omega arith;
  few-buckets = omega (arith, f.small.points-small, f.small.triangles-small);
  from_in = omega arith;
  to_in = omega arith;
  counts-in = omega arith;
  flags-in = omega arith;
  marks-in = omega (arith, f.words-fit);
  low-marks = omega (arith, f.small.words_small, f.small.points-small, f.small.triangles-small);
}

module _ (l : Layout) {reals words : ℕ} (o : Ordered l reals words) (w w' : List Float) (u u' : List ℕ)
    (same-reals : (j : ℕ) → j < l.areas → get_or w' j nan ≡ get_or w j nan) (same-words : (j : ℕ) → j < l.wound → get_or u' j 0 ≡ get_or u j 0) where
  plane : (b : ℕ) → b + l.points ≤ l.areas → region nan w' b l.points ≡ region nan w b l.points
  unfolding region
  plane b h = tab-ext _ _ l.points (λ i g. same-reals (b + i) (omega arith))

  pub floor-stays : floor_in l w' u' ≡ floor_in l w u
  unfolding floor_in
  floor-stays =
      rw (
        plane l.x (omega (arith, o.x-in, o.y-in, o.sizes-in, o.guidance-in)),
        plane l.y (omega (arith, o.y-in, o.sizes-in, o.guidance-in)),
        plane l.sizes (omega (arith, o.sizes-in, o.guidance-in)),
        tris-same l.given l.triangles u u' (λ j h. same-words j (omega (arith, o.given-in))),
      )

-- the packed copy of a matrix with m edges has room
module _ (l : Layout) (m : ℕ) {reals words : ℕ} (o : Ordered l reals words) (few : m ≤ 3 * l.triangles) where
  pub countable : Countable l m
  countable = record {
    table-low = omega (arith, o.low-marks, o.table-in, o.from_in, o.to_in, o.counts-in, o.flags-in);
    few-points = o.few-points;
    few-edges = omega (arith, o.few-triangles);
  }

  pub pack-room : PackRoom words (packing_at l m) (source_at l m)
  pack-room = record {
    few = omega (arith, o.few-points);
    narrow = omega (arith, o.few-triangles);
    all = refl;
    behind = refl;
    neighbours-in = omega arith;
    halves_in = omega (arith, o.table-in, o.point-buckets);
    from_in = omega (arith, o.from_in);
    to_in = omega (arith, o.to_in, o.counts-in, o.flags-in);
    marks-in = o.marks-in;
    small = o.low-marks;
  }
