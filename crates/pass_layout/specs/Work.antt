-- What stands in the work slices of a pass: its floor, and after the sides were numbered its edges. Definitions only.
use Rattle.std.specs.Prelude.{ℕ, ◌*◌, ◌≤◌, List, Float}
use Rattle.std.specs.Float.{nan}
use Rattle.floor.specs.Floor.{Floor}
use Rattle.linear_cells.specs.Region.{region}
use Rattle.edges.specs.Numbering.{tris_from}
use Rattle.linear_hermitian.specs.Work.{Graph}
use Rattle.pass_boundary.specs.declared.Listing.{Listing}
use Rattle.pass_boundary.specs.Work.{Sided, Numbers}
use Rattle.pass_layout.specs.declared.Layout.{Layout}
use Rattle.pass_layout.specs.Matrices.{mass_at}

-- the floor
unfoldable pub floor_in : Layout → List Float → List ℕ → Floor
floor_in l w u = record {
  xs = region nan w l.x l.points;
  ys = region nan w l.y l.points;
  sizes = region nan w l.sizes l.points;
  triangles = tris_from l.given u l.triangles;
}

-- the guidance angles
abbrev pub guidance_in : Layout → List Float → List Float
guidance_in l w = region nan w l.guidance l.points

-- the lower and the upper ends of m edges
abbrev pub from_list : Layout → ℕ → List ℕ → List ℕ
from_list l m u = region 0 u l.from m

abbrev pub to_list : Layout → ℕ → List ℕ → List ℕ
to_list l m u = region 0 u l.to m

-- where boundary_targets reads and writes
abbrev pub listing_at : Layout → ℕ → Listing
listing_at l m = record {
  triangles = l.triangles;
  sides = m;
  buckets = l.buckets;
  corners = l.given;
  numbers = l.numbers;
  table = l.table;
  counts = l.counts;
  flags = l.flags;
}

-- the m edges are numbered: each has two different ends, and the table and the numbers of the triangles' sides say which they are
pub record Edged (l : Layout) (m : ℕ) (u : List ℕ) : Type 0 where
  pub few : m ≤ 3 * l.triangles
  pub sided : Sided (listing_at l m) l.points u
  pub numbers : Numbers (listing_at l m) u
  pub graph : Graph (mass_at l m) (from_list l m u) (to_list l m u)
