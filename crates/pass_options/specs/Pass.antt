-- What a pass gets and answers, and the facts that demand 3 rests on, for any pass. Definitions only.
use Rattle.std.specs.Prelude.{ℕ, ◌/◌, ◌<◌, ◌≡◌, List, length, get_or, Float, Ok, Err}
use Rattle.std.specs.Float.{nan}
use Rattle.complex.specs.Angle.{IsCross}
use Rattle.linear_cells.specs.Region.{tab}
use Rattle.mesh.specs.Points.{x_of, y_of}
use Rattle.mesh.specs.Mesh.{Tri, Distinct, All}
use Rattle.mesh.specs.Claim.{InRange}
use Rattle.floor.specs.Floor.{Floor, point_count}
use Rattle.refusals.specs.declared.Refusal.{Refusal}
use Rattle.pass_options.specs.declared.Options.{Options}
use Rattle.pass_options.specs.Options.{Guidance}
use Rattle.refusals.specs.Refusal.{Verdict}

-- an angle for each point, or what is wrong, rows 19 to 24
pub data Passed : Type 0 where
  field : List Float → Passed
  faulty : Refusal → Passed

-- the same as a stage's answer, which leaves the angles in the work slice
abbrev pub stage_of : Passed → Verdict
stage_of (field alpha) = Ok tt
stage_of (faulty x) = Err x

-- the floor of points that are given as x, y and z of each, of triangles and of a size for each point
abbrev pub floor_of : List Float → List Tri → List Float → Floor
floor_of points triangles sizes = record {
  xs = tab (x_of points) (length points / 3);
  ys = tab (y_of points) (length points / 3);
  sizes = sizes;
  triangles = triangles;
}

-- the Rust's solve_mesh: a floor, options, guidance and iterations
abbrev pub Pass : Type 0
Pass = Floor → Options → Guidance → ℕ → Passed

-- the facts of a pass that the claim rests on, over any floor whose corners are in range; the pass of this project has them
pub record PassFacts (pass : Pass) : Type 0 where
  -- an accepted pass has three pairwise different corners in every triangle: row 19 refuses any other
  pub three-corners : (f : Floor) (o : Options) (g : Guidance) (k : ℕ) (alpha : List Float) → All (InRange (point_count f)) f.triangles
      → pass f o g k ≡ field alpha → All Distinct f.triangles
  -- it has as many angles as points
  pub as_many : (f : Floor) (o : Options) (g : Guidance) (k : ℕ) (alpha : List Float) → pass f o g k ≡ field alpha → length alpha ≡ point_count f
  -- and each lies in [0, FRAC_PI_2), -0 counted in
  pub range : (f : Floor) (o : Options) (g : Guidance) (k : ℕ) (alpha : List Float) → pass f o g k ≡ field alpha
      → (i : ℕ) → i < length alpha → IsCross (get_or alpha i nan)
