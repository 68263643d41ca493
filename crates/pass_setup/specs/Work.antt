-- What the first part of a pass leaves in the work slices, stage by stage. Definitions only.
use Rattle.std.specs.Prelude.{ℕ, ◌+◌, ◌*◌, ◌≤◌, ◌<◌, ◌≡◌, List, length, get_or, Float, Ok}
use Rattle.std.specs.Float.{nan}
use Rattle.linear_cells.specs.Region.{region}
use Rattle.linear_cells.specs.Cell.{region_c}
use Rattle.edges.specs.Table.{NumbersOf}
use Rattle.edges.specs.Numbering.{tri_from, Below}
use Rattle.floor.specs.Floor.{Floor, point_count, triangle_count, triangle_at}
use Rattle.pass_geometries.specs.declared.GeometriesPlan.{GeometriesPlan}
use Rattle.pass_geometries.specs.Work.{Kept}
use Rattle.float.specs.Double.{◌⊘◌}
use Rattle.pass_gradients.specs.declared.GradientsPlan.{GradientsPlan}
use Rattle.pass_gradients.specs.Gradients.{first_refused}
use Rattle.pass_transports.specs.declared.TransportsPlan.{TransportsPlan}
use Rattle.pass_layout.specs.declared.Layout.{Layout}
use Rattle.pass_layout.specs.Work.{floor_in, from_list, to_list, Edged}
use Rattle.pass_setup.specs.Setup.{degenerate_of, wound_of, areas_of, sum_x, sum_y, weight_of, means_of, gradients_x, gradients_y, edges_of, lowers_of, uppers_of, transports_of, setup_of, Setup}

-- ---- where the stages read and write

abbrev pub geometries_at : Layout → GeometriesPlan
geometries_at l = record { points = l.points; triangles = l.triangles; x = l.x; y = l.y; areas = l.areas; given = l.given; wound = l.wound }

abbrev pub gradients_at : Layout → GradientsPlan
gradients_at l = record {
  points = l.points;
  triangles = l.triangles;
  x = l.x;
  y = l.y;
  sizes = l.sizes;
  areas = l.areas;
  gradients = l.gradients;
  wound = l.wound;
}

abbrev pub transports_at : Layout → TransportsPlan
transports_at l = record { points = l.points; x = l.x; y = l.y; sizes = l.sizes; gradients = l.gradients; transports = l.transports }

-- ---- what stands there of the floor f: after row 19, after rows 20 and 21, and after its m edges were numbered

pub record Wound (l : Layout) (f : Floor) (w : List Float) (u : List ℕ) : Type 0 where
  pub floor : floor_in l w u ≡ f
  pub given_below : Below l.points l.given u (3 * l.triangles)
  pub none : degenerate_of f ≡ triangle_count f
  pub areas : region nan w l.areas l.triangles ≡ areas_of f
  pub corners : (i : ℕ) → i < l.triangles → tri_from l.wound u i ≡ triangle_at (wound_of f) i
  pub corners-below : Below l.points l.wound u (3 * l.triangles)

-- rows 20 and 21: the lowest point that is refused, or how many there are
unfoldable pub refused_point : Floor → ℕ
refused_point f = first_refused (sum_x f) (sum_y f) (weight_of f) (point_count f)

-- the points before the refused one have their size gradients, it and those behind it their sums, and all of them their weights
pub record Summed (l : Layout) (f : Floor) (w : List Float) : Type 0 where
  pub mean-x : (v : ℕ) → v < refused_point f → get_or w (l.gradients + v) nan ≡ sum_x f v ⊘ weight_of f v
  pub mean-y : (v : ℕ) → v < refused_point f → get_or w (l.gradients + l.points + v) nan ≡ sum_y f v ⊘ weight_of f v
  pub sum-x : (v : ℕ) → refused_point f ≤ v → v < l.points → get_or w (l.gradients + v) nan ≡ sum_x f v
  pub sum-y : (v : ℕ) → refused_point f ≤ v → v < l.points → get_or w (l.gradients + l.points + v) nan ≡ sum_y f v
  pub all-weights : (v : ℕ) → v < l.points → get_or w (l.gradients + 2 * l.points + v) nan ≡ weight_of f v

pub record Averaged (l : Layout) (f : Floor) (w : List Float) (u : List ℕ) : Type 0 where
  pub turned : Wound l f w u
  pub sound : means_of f ≡ Ok tt
  pub summed : Summed l f w
  pub all-x : region nan w l.gradients l.points ≡ gradients_x f
  pub all-y : region nan w (l.gradients + l.points) l.points ≡ gradients_y f

pub record Joined (l : Layout) (m : ℕ) (f : Floor) (w : List Float) (u : List ℕ) : Type 0 where
  pub averaged : Averaged l f w u
  pub all_edges : m ≡ length (edges_of f)
  pub numbers : (i : ℕ) → i < l.triangles
      → NumbersOf (triangle_at (wound_of f) i) (edges_of f) (get_or u (l.numbers + 3 * i) 0) (get_or u (l.numbers + 3 * i + 1) 0) (get_or u (l.numbers + 3 * i + 2) 0)
  pub lowers : from_list l m u ≡ lowers_of f
  pub uppers : to_list l m u ≡ uppers_of f
  pub edged : Edged l m u

-- ---- what is left in the end

-- what stands there of the floor f with m edges
pub record Stands (l : Layout) (m : ℕ) (f : Floor) (w : List Float) (u : List ℕ) : Type 0 where
  pub all_edges : m ≡ length (edges_of f)
  pub areas : region nan w l.areas l.triangles ≡ areas_of f
  pub transports : region_c w l.transports m ≡ transports_of f
  pub corners : (i : ℕ) → i < l.triangles → tri_from l.wound u i ≡ triangle_at (wound_of f) i
  pub numbers : (i : ℕ) → i < l.triangles
      → NumbersOf (triangle_at (wound_of f) i) (edges_of f) (get_or u (l.numbers + 3 * i) 0) (get_or u (l.numbers + 3 * i + 1) 0) (get_or u (l.numbers + 3 * i + 2) 0)
  pub corners-below : Below l.points l.wound u (3 * l.triangles)
  pub numbers-below : Below m l.numbers u (3 * l.triangles)
  pub lowers : from_list l m u ≡ lowers_of f
  pub uppers : to_list l m u ≡ uppers_of f
  pub edged : Edged l m u

-- nothing behind the sums and the corners is written
pub record Unjoined (l : Layout) (w : List Float) (u : List ℕ) (w' : List Float) (u' : List ℕ) : Type 0 where
  pub reals-behind : (j : ℕ) → l.gradients + 3 * l.points ≤ j → get_or w' j nan ≡ get_or w j nan
  pub words-behind : (j : ℕ) → l.wound + 3 * l.triangles ≤ j → get_or u' j 0 ≡ get_or u j 0

-- the answer; the floor and all before it stay as they were, and so does all behind the set-up's last region, the transports and the upper ends. Where row 19
-- refuses, the areas and the corners of the triangles before the refused one are written, and nothing else; where it does not, all areas and corners stand
-- there, and the sums or gradients; where row 20 or 21 refuses nothing else is written, and where they do not all edges stand there; where there is no refusal,
-- all of the set-up. Free are the table's buckets and links, the room of a region behind the floor's edges, the transports where row 22 refuses, and what lies
-- between two regions where a layout has gaps (`layout_of` has none here)
pub record SetUp (l : Layout) (w : List Float) (u : List ℕ) (w' : List Float) (u' : List ℕ) (r : Setup) : Type 0 where
  pub answer : r ≡ setup_of (floor_in l w u)
  pub all-reals : length w' ≡ length w
  pub all_words : length u' ≡ length u
  pub reals-below : (j : ℕ) → j < l.areas → get_or w' j nan ≡ get_or w j nan
  pub words-below : (j : ℕ) → j < l.wound → get_or u' j 0 ≡ get_or u j 0
  pub reals-behind : (j : ℕ) → l.transports + 6 * l.triangles ≤ j → get_or w' j nan ≡ get_or w j nan
  pub words-behind : (j : ℕ) → l.to + 3 * l.triangles ≤ j → get_or u' j 0 ≡ get_or u j 0
  pub row-19 : degenerate_of (floor_in l w u) < l.triangles → Kept (geometries_at l) w u w' u' (degenerate_of (floor_in l w u))
  pub turned : l.triangles ≤ degenerate_of (floor_in l w u) → Wound l (floor_in l w u) w' u'
  pub summed : l.triangles ≤ degenerate_of (floor_in l w u) → Summed l (floor_in l w u) w'
  pub unjoined : refused_point (floor_in l w u) < l.points → Unjoined l w u w' u'
  pub joined : l.triangles ≤ degenerate_of (floor_in l w u) → l.points ≤ refused_point (floor_in l w u) → Joined l (length (edges_of (floor_in l w u))) (floor_in l w u) w' u'
  pub stands : (m : ℕ) → r ≡ Ok m → Stands l m (floor_in l w u) w' u'
