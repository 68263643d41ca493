-- Where the regions of a pass stand, and that they come one after the other within the room that document 01 lends. Definitions only.
-- b and c are where the pass begins in the f64 and in the u32 work, n its points and t its triangles. A floor of t triangles has at most 3 t edges.
use Rattle.std.specs.Prelude.{ℕ, ◌+◌, ◌*◌, ◌%◌, ◌^◌, ◌≤◌, ◌<◌, cond, ltb}
use Rattle.pass_layout.specs.declared.Base.{Base}
use Rattle.pass_layout.specs.declared.Layout.{Layout}

-- how much of each slice a pass takes, at most
abbrev pub reals_of : ℕ → ℕ → ℕ
reals_of n t = 25 * n + 31 * t

abbrev pub words_of : ℕ → ℕ → ℕ
words_of n t = 30 * t + 3 * n + 1

-- a bucket for each point, and one more, so that there is one
abbrev pub buckets_of : ℕ → ℕ
buckets_of n = n + 1

-- from where a vector of the linear solver begins to where the next one does (`stride_of`): from a page of 512 (PAGE) numbers on, the next begins 104 (APART)
-- numbers further on in its page
unfoldable pub stride_of : ℕ → ℕ
stride_of n = cond (ltb n 512) (2 * n) (2 * n + (104 + 510 * n) % 512)

unfoldable pub layout_of : Base → Layout
layout_of at =
    let b = at.reals in
    let c = at.words in
    let n = at.points in
    let t = at.triangles in
    record {
      points = n;
      triangles = t;
      angles = b;
      x = b + n;
      y = b + 2 * n;
      sizes = b + 3 * n;
      guidance = b + 4 * n;
      areas = b + 5 * n;
      gradients = b + 5 * n + t;
      transports = b + 8 * n + t;
      mass = b + 8 * n + 7 * t;
      mass_off = b + 9 * n + 7 * t;
      energy = b + 9 * n + 13 * t;
      energy_off = b + 10 * n + 13 * t;
      packed = b + 10 * n + 19 * t;
      targets = b + 10 * n + 31 * t;
      iterate = b + 12 * n + 31 * t;
      residual = b + 12 * n + 31 * t + stride_of n;
      direction = b + 12 * n + 31 * t + 2 * stride_of n;
      applied = b + 12 * n + 31 * t + 3 * stride_of n;
      inverse = b + 12 * n + 31 * t + 4 * stride_of n;
      given = c;
      wound = c + 3 * t;
      numbers = c + 6 * t;
      table = c + 9 * t;
      buckets = buckets_of n;
      from = c + 21 * t + buckets_of n;
      to = c + 21 * t + buckets_of n + 3 * t;
      counts = c + 21 * t + buckets_of n + 6 * t;
      flags = c + 21 * t + buckets_of n + 9 * t;
      marks = c + 21 * t + buckets_of n + 9 * t + n;
    }

-- counts that no sum above overflows at
pub record Small (at : Base) : Type 0 where
  pub reals-small : at.reals < 2 ^ 32
  pub words_small : at.words < 2 ^ 32
  pub points-small : at.points < 2 ^ 24
  pub triangles-small : at.triangles < 2 ^ 24

-- the pass fits in slices of these lengths
pub record Fits (at : Base) (reals words : ℕ) : Type 0 where
  pub small : Small at
  pub reals-fit : at.reals + reals_of at.points at.triangles ≤ reals
  pub words-fit : at.words + words_of at.points at.triangles ≤ words

-- the regions come one after the other; all that a stage asks of lengths and offsets follows from this by arithmetic
pub record Ordered (l : Layout) (reals words : ℕ) : Type 0 where
  pub few-points : l.points < 2 ^ 24
  pub few-triangles : l.triangles < 2 ^ 24
  -- f64
  pub angles-in : l.angles + l.points ≤ l.x
  pub x-in : l.x + l.points ≤ l.y
  pub y-in : l.y + l.points ≤ l.sizes
  pub sizes-in : l.sizes + l.points ≤ l.guidance
  pub guidance-in : l.guidance + l.points ≤ l.areas
  pub areas-in : l.areas + l.triangles ≤ l.gradients
  pub gradients-in : l.gradients + 3 * l.points ≤ l.transports
  pub transports-in : l.transports + 6 * l.triangles ≤ l.mass
  pub mass-in : l.mass + l.points ≤ l.mass_off
  pub mass-off-in : l.mass_off + 6 * l.triangles ≤ l.energy
  pub energy-in : l.energy + l.points ≤ l.energy_off
  pub energy-off-in : l.energy_off + 6 * l.triangles ≤ l.packed
  pub packed-in : l.packed + 12 * l.triangles ≤ l.targets
  pub targets-in : l.targets + 2 * l.points ≤ l.iterate
  pub iterate-in : l.iterate + 2 * l.points ≤ l.residual
  pub residual-in : l.residual + 2 * l.points ≤ l.direction
  pub direction-in : l.direction + 2 * l.points ≤ l.applied
  pub applied-in : l.applied + 2 * l.points ≤ l.inverse
  pub inverse-in : l.inverse + l.points ≤ reals
  -- u32
  pub given-in : l.given + 3 * l.triangles ≤ l.wound
  pub wound-in : l.wound + 3 * l.triangles ≤ l.numbers
  pub numbers-in : l.numbers + 3 * l.triangles ≤ l.table
  pub table-in : l.table + l.buckets + 12 * l.triangles ≤ l.from
  pub some-buckets : 0 < l.buckets
  pub point-buckets : l.points + 1 ≤ l.buckets
  pub few-buckets : l.buckets ≤ 2 ^ 32
  pub from_in : l.from + 3 * l.triangles ≤ l.to
  pub to_in : l.to + 3 * l.triangles ≤ l.counts
  pub counts-in : l.counts + 3 * l.triangles ≤ l.flags
  pub flags-in : l.flags + l.points ≤ l.marks
  pub marks-in : l.marks + l.points ≤ words
  pub low-marks : l.marks < 2 ^ 60
