-- How the work slice holds the points and the coefficients, and what is required of it. Definitions only.
use Rattle.std.specs.Prelude.{ℕ, ◌+◌, ◌*◌, ◌≤◌, ◌<◌, ◌≡◌, Bool, cond, not, List, ltb, length, get_or, Float, Ok, Err}
use Rattle.complex.specs.declared.Complex.{Complex}
use Rattle.complex.specs.Complex.{cnan}
use Rattle.pass_geometries.specs.Work.{coords_from}
use Rattle.linear_cells.specs.Region.{tab}
use Rattle.linear_cells.specs.Cell.{set_c, region_c, put_c}
use Rattle.pass_transports.specs.declared.TransportsPlan.{TransportsPlan}
use Rattle.pass_transports.specs.Transports.{Points, transport_at, is_refused, first_mean, coefficient_at, transports_answer, Answer, Transport}

-- the gradients' first parts, and then their second
unfoldable pub points_from : List Float → TransportsPlan → Points
points_from w l = record {
  x = coords_from w l.x;
  y = coords_from w l.y;
  size = coords_from w l.sizes;
  gx = coords_from w l.gradients;
  gy = coords_from w (l.gradients + l.points);
}

-- the planes lie below the vector of m coefficients
pub record TransportsRoom (len : ℕ) (l : TransportsPlan) (m : ℕ) : Type 0 where
  pub x_below : l.x + l.points ≤ l.transports
  pub y-below : l.y + l.points ≤ l.transports
  pub sizes-below : l.sizes + l.points ≤ l.transports
  pub gradients-below : l.gradients + 2 * l.points ≤ l.transports
  pub transports-in : l.transports + 2 * m ≤ len

-- every edge has two ends, which are points
pub record Ends (n : ℕ) (a b : List ℕ) : Type 0 where
  pub paired : length b ≡ length a
  pub a-below : (e : ℕ) → e < length a → get_or a e 0 < n
  pub b-below : (e : ℕ) → e < length a → get_or b e 0 < n

-- edge e's coefficient is kept where it has one
abbrev pub kept : List Float → ℕ → ℕ → ℕ → Transport → List Float
kept w base m e (Ok z) = set_c w base m e z
kept w base m e (Err f) = w

-- edge e was looked at: r says whether it has a coefficient, which is then kept
pub record Looked (l : TransportsPlan) (a b : List ℕ) (e : ℕ) (w w' : List Float) (r : Bool) : Type 0 where
  pub sound : r ≡ not (is_refused (transport_at (points_from w l) a b e))
  pub work : w' ≡ kept w l.transports (length a) e (transport_at (points_from w l) a b e)

-- v with the coefficients of the edges below k
unfoldable pub kept_to : Points → List ℕ → List ℕ → ℕ → List Complex → List Complex
kept_to p a b k v = tab (λ e. cond (ltb e k) (coefficient_at p a b e) (get_or v e cnan)) (length v)

-- the answer; the coefficients of the edges before the first that is refused are written, and all else is as it was
pub record Transported (l : TransportsPlan) (a b : List ℕ) (w w' : List Float) (r : Answer) : Type 0 where
  pub result : r ≡ transports_answer (points_from w l) a b
  pub work : w' ≡ put_c w l.transports (kept_to (points_from w l) a b (first_mean (points_from w l) a b (length a)) (region_c w l.transports (length a)))
