-- A floor and its guidance laid out for a pass: the slice with its planes stored, and what the pass over it finds. Definitions only.
use Rattle.std.specs.Prelude.{ℕ, ◌+◌, ◌*◌, ◌/◌, ◌≤◌, ◌<◌, ◌≡◌, Bool, true, cond, List, length, get_or, Float}
use Rattle.std.specs.Float.{nan}
use Rattle.linear_cells.specs.Region.{region, put}
use Rattle.mesh.specs.Mesh.{Side, Tri}
use Rattle.mesh.specs.Points.{more_points, more_sizes}
use Rattle.edges.specs.declared.Table.{Table}
use Rattle.edges.specs.Table.{end_of, cuts_in}
use Rattle.edges.specs.Numbering.{tris_from}
use Rattle.refinement.specs.Guidance.{more_angles}
use Rattle.pass_floor.specs.declared.inputs.Mean.TheVariants.{Half, Angle}
use Rattle.pass_floor.specs.Planes.{coordinate_plane, value_plane}
use Rattle.pass_layout.specs.declared.Base.{Base}
use Rattle.pass_layout.specs.declared.Layout.{Layout}
use Rattle.pass_layout.specs.Layout.{reals_of, words_of, Fits}
use Rattle.refusals.specs.declared.Refusal.{Refusal}
use Rattle.pass_options.specs.declared.Options.{Options}
use Rattle.pass_options.specs.Options.{guidance_of}
use Rattle.pass_options.specs.Pass.{Passed, field, faulty, stage_of, floor_of}
use Rattle.pass.specs.declared.Asked.{Asked}
use Rattle.pass.specs.Pass.{pass_of}
use Rattle.refusals.specs.Refusal.{Verdict}

-- ---- the slice with the planes

unfoldable pub points_laid : List Float → List Float → List Side → Layout → List Float → List Float
points_laid points sizes cuts l w = put (put (put w l.x (coordinate_plane points cuts 0)) l.y (coordinate_plane points cuts 1)) l.sizes (value_plane Half sizes cuts)

unfoldable pub guidance_laid : Bool → List Float → List Side → Layout → List Float → List Float
guidance_laid guided guidance cuts l w = cond guided (put w l.guidance (value_plane Angle guidance cuts)) w

-- ---- what the pass over it finds

unfoldable pub pass_over : Options → Asked → List Float → List Float → List Float → List Side → List Tri → Passed
pass_over o a points sizes guidance cuts ts =
    pass_of (floor_of (more_points points cuts) ts (more_sizes sizes cuts)) o (guidance_of a.guided a.weight (more_angles guidance cuts)) a.iterations

-- the same, of the cut sides and the triangles that stand in the u32 work
abbrev pub pass_at : Base → Options → Asked → Table → List Float → List Float → List Float → List ℕ → Passed
pass_at at o a t points sizes guidance u = pass_over o a points sizes guidance (cuts_in t u) (tris_from at.words u at.triangles)

-- ---- lengths and offsets

pub record LayRoom (points sizes : ℕ) (t : Table) (words : ℕ) (l : Layout) (work : ℕ) : Type 0 where
  pub whole : points ≡ 3 * (points / 3)
  pub sized : sizes ≡ points / 3
  pub table-in : end_of t ≤ words
  pub x-in : l.x + (points / 3 + t.sides) ≤ work
  pub y-in : l.y + (points / 3 + t.sides) ≤ work
  pub sizes-in : l.sizes + (points / 3 + t.sides) ≤ work

pub record GuidanceRoom (guided : Bool) (guidance : ℕ) (t : Table) (words : ℕ) (l : Layout) (work : ℕ) : Type 0 where
  pub table-in : end_of t ≤ words
  pub guidance-in : guided ≡ true → l.guidance + (guidance + t.sides) ≤ work

-- a floor of these points, sizes and cut sides, with that guidance, can be laid out and passed over where it begins at `at`
pub record LaidRoom (at : Base) (guided : Bool) (points sizes guidance : ℕ) (t : Table) (work words : ℕ) : Type 0 where
  pub whole : points ≡ 3 * (points / 3)
  pub sized : sizes ≡ points / 3
  pub guided-all : guided ≡ true → guidance ≡ points / 3
  pub table-in : end_of t ≤ words
  pub all-points : at.points ≡ points / 3 + t.sides
  pub fits : Fits at work words

-- ---- a pass that was made where it begins at `at`: its answer, and its angles where it has some, else what stood there. In both slices all before the pass and
-- all behind its room is as it was; the rest of its room is free
pub record Made (at : Base) (p : Passed) (w w' : List Float) (u u' : List ℕ) (r : Verdict) : Type 0 where
  pub answer : r ≡ stage_of p
  pub found : (alpha : List Float) → p ≡ field alpha → region nan w' at.reals at.points ≡ alpha
  pub all-reals : length w' ≡ length w
  pub all_words : length u' ≡ length u
  pub reals-below : (j : ℕ) → j < at.reals → get_or w' j nan ≡ get_or w j nan
  pub angles-stay : (x : Refusal) → p ≡ faulty x → (j : ℕ) → at.reals ≤ j → j < at.reals + at.points → get_or w' j nan ≡ get_or w j nan
  pub reals-behind : (j : ℕ) → at.reals + reals_of at.points at.triangles ≤ j → get_or w' j nan ≡ get_or w j nan
  pub words-below : (j : ℕ) → j < at.words → get_or u' j 0 ≡ get_or u j 0
  pub words-behind : (j : ℕ) → at.words + words_of at.points at.triangles ≤ j → get_or u' j 0 ≡ get_or u j 0
