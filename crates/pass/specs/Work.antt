-- What a pass reads from the work slices, and what its parts leave there. What it leaves itself is `Finds` of crate pass_branches: the angles where it found
-- them; its floor and its guidance, all before the pass and all behind its last regions as it was. What lies between is free. Definitions only.
use Rattle.std.specs.Prelude.{ℕ, ◌≡◌, List, Float}
use Rattle.std.specs.Float.{nan}
use Rattle.linear_cells.specs.Region.{region}
use Rattle.pass_terms.specs.declared.Mode.{Mode}
use Rattle.pass_assembly.specs.declared.AssemblyPlan.{AssemblyPlan}
use Rattle.pass_assembly.specs.Work.{assembled_to}
use Rattle.pass_assembly.specs.declared.shift.Traces.{Traces}
use Rattle.pass_assembly.specs.Shift.{traces_of}
use Rattle.pass_options.specs.declared.Options.{Options}
use Rattle.pass_options.specs.Options.{Guidance, guidance_of}
use Rattle.pass_options.specs.Pass.{Passed}
use Rattle.pass_layout.specs.declared.Layout.{Layout}
use Rattle.pass_layout.specs.Matrices.{mass_at, energy_at}
use Rattle.pass_layout.specs.Work.{floor_in, guidance_in}
use Rattle.pass.specs.declared.Asked.{Asked}
use Rattle.pass.specs.Pass.{field_over, pass_of}

-- the guidance that stands there, if it is given
abbrev pub guidance_at : Layout → Asked → List Float → Guidance
guidance_at l a w = guidance_of a.guided a.weight (guidance_in l w)

-- the field that is asked for: of a whole pass, and once the floor is set up
unfoldable pub pass_in : Layout → Options → Asked → List Float → List ℕ → Passed
pass_in l o a w u = pass_of (floor_in l w u) o (guidance_at l a w) a.iterations

unfoldable pub field_in : Layout → Options → Asked → List Float → List ℕ → Passed
field_in l o a w u = field_over (floor_in l w u) o (guidance_at l a w) a.iterations

-- what is assembled
abbrev pub plan_at : Layout → AssemblyPlan
plan_at l = record { x = l.x; y = l.y; areas = l.areas; transports = l.transports; corners = l.wound; numbers = l.numbers; triangles = l.triangles }

-- both matrices, with m edges, before any shift; and their traces
pub record Builds (l : Layout) (m : ℕ) (mode : Mode) (w : List Float) (u : List ℕ) (w' : List Float) (r : Traces) : Type 0 where
  pub work : w' ≡ assembled_to mode w u (plan_at l) (mass_at l m) (energy_at l m) l.triangles
  pub traces : r ≡ traces_of (region nan w' l.mass l.points) (region nan w' l.energy l.points)
