-- What the second part of a pass reads from the work slices, requires of them and leaves there. Definitions only.
use Rattle.std.specs.Prelude.{ℕ, ◌+◌, ◌*◌, ◌≤◌, ◌<◌, ◌≡◌, Bool, not, ◌&&◌, List, length, get_or, Float}
use Rattle.std.specs.Float.{nan}
use Rattle.std.specs.Float.Ieee.{lt}
use Rattle.float.specs.Double.{lit}
use Rattle.complex.specs.declared.Complex.{Complex}
use Rattle.linear_cells.specs.Region.{region}
use Rattle.linear_cells.specs.Cell.{region_c}
use Rattle.geometry.specs.Edge.{alignment_weight}
use Rattle.linear_hermitian.specs.Work.{matrix, Graph}
use Rattle.linear_packing.specs.Pack.{Ready, packed_in}
use Rattle.linear_packing.specs.Pack as pack
use Rattle.pass_inverse_iteration.specs.declared.Outer.{Outer}
use Rattle.pass_inverse_iteration.specs.declared.PencilPlan.{PencilPlan}
use Rattle.pass_inverse_iteration.specs.Inverse.{inverse_of}
use Rattle.pass_inverse_iteration.specs.Work.{PlanesBelow, start_in}
use Rattle.pass_soft.specs.declared.Terms.{Terms}
use Rattle.pass_soft.specs.Work.{system_in}
use Rattle.pass_constraints.specs.Constraints.{boundary_data}
use Rattle.pass_systems.specs.Systems.{soft_system}
use Rattle.pass_systems.specs.Work.{SystemRoom, mass_in, energy_in, targets_at, soft_in}
use Rattle.refusals.specs.declared.Refusal.{Refusal}
use Rattle.pass_options.specs.declared.Options.{Options}
use Rattle.pass_options.specs.declared.BoundaryMode.{BoundaryMode}
use Rattle.pass_options.specs.Options.{guidance_of}
use Rattle.pass_options.specs.Pass.{Passed, field, faulty, stage_of}
use Rattle.pass_layout.specs.declared.Layout.{Layout}
use Rattle.pass_layout.specs.Matrices.{mass_at, energy_at, vectors_at, packing_at, source_at}
use Rattle.pass_layout.specs.Work.{floor_in, guidance_in, from_list, to_list}
use Rattle.pass_branches.specs.declared.Search.{Search}
use Rattle.pass_branches.specs.declared.solver.BranchPlan.{BranchPlan}
use Rattle.pass_branches.specs.Branches.{Built, after_vector, linear, free, weak, tangent, by_mode, branch_of}
use Rattle.refusals.specs.Refusal.{Verdict}

-- the matrices with m edges that stand in the slices
abbrev pub built_in : Layout → ℕ → Float → List Float → List ℕ → Built
built_in l m trace w u = record { mass = matrix w (mass_at l m) (from_list l m u) (to_list l m u); energy = matrix w (energy_at l m) (from_list l m u) (to_list l m u); trace = trace }

-- the field that is asked for
unfoldable pub sought_in : Layout → ℕ → Options → Search → List Float → List ℕ → Passed
sought_in l m o s w u = branch_of (built_in l m s.trace w u) (floor_in l w u) o (guidance_of s.guided s.weight (guidance_in l w)) s.iterations

-- what a pass found, in the slices: the answer, and the field where there is one; where there is none the angles are as they were. In the f64 work all before
-- the angles, all from behind them up to `reals`, and all behind the solver's last vector stays as it was; in the u32 work all before `words`, and all behind
-- the marks. The rest is free
pub record Finds (l : Layout) (reals words : ℕ) (p : Passed) (w : List Float) (u : List ℕ) (w' : List Float) (u' : List ℕ) (r : Verdict) : Type 0 where
  pub answer : r ≡ stage_of p
  pub found : (alpha : List Float) → p ≡ field alpha → region nan w' l.angles l.points ≡ alpha
  pub all-reals : length w' ≡ length w
  pub all_words : length u' ≡ length u
  pub reals-below : (j : ℕ) → j < l.angles → get_or w' j nan ≡ get_or w j nan
  pub angles-stay : (x : Refusal) → p ≡ faulty x → (j : ℕ) → l.angles ≤ j → j < l.angles + l.points → get_or w' j nan ≡ get_or w j nan
  pub reals-between : (j : ℕ) → l.angles + l.points ≤ j → j < reals → get_or w' j nan ≡ get_or w j nan
  pub reals-behind : (j : ℕ) → l.inverse + l.points ≤ j → get_or w' j nan ≡ get_or w j nan
  pub words-below : (j : ℕ) → j < words → get_or u' j 0 ≡ get_or u j 0
  pub words-behind : (j : ℕ) → l.marks + l.points ≤ j → get_or u' j 0 ≡ get_or u j 0

-- ---- the f64 work alone

-- the same of it, by a branch's plan: all before the angles, all from behind them up to the energy matrix, and all behind the vectors stays
pub record Leaves (w w' : List Float) (b : BranchPlan) (p : Passed) (r : Verdict) : Type 0 where
  pub answer : r ≡ stage_of p
  pub found : (alpha : List Float) → p ≡ field alpha → region nan w' b.angles b.system.energy.size ≡ alpha
  pub all-reals : length w' ≡ length w
  pub reals-below : (j : ℕ) → j < b.angles → get_or w' j nan ≡ get_or w j nan
  pub angles-stay : (x : Refusal) → p ≡ faulty x → (j : ℕ) → b.angles ≤ j → j < b.angles + b.system.energy.size → get_or w' j nan ≡ get_or w j nan
  pub reals-between : (j : ℕ) → b.angles + b.system.energy.size ≤ j → j < b.system.energy.diagonal → j < b.system.energy.off → get_or w' j nan ≡ get_or w j nan
  pub reals-behind : (j : ℕ) → b.system.vectors.inverse + b.system.energy.size ≤ j → get_or w' j nan ≡ get_or w j nan

-- where the branches read and write, by the matrices and the solver's vectors: the angles and the guidance lie below the energy matrix, and the coordinates
-- below the vectors
pub record BranchRoom (len : ℕ) (b : BranchPlan) : Type 0 where
  pub system-room : SystemRoom len b.system
  pub plane-room : PlanesBelow b.system.energy.size b.system.vectors b.outer
  pub angles-below : b.angles + b.system.energy.size ≤ b.system.energy.diagonal
  pub angles-below-off : b.angles + b.system.energy.size ≤ b.system.energy.off

-- where the packed copy of the energy matrix stands: its entries are after that matrix and the angles, and before the solver's vectors
pub record CopyRoom (b : BranchPlan) : Type 0 where
  pub one_size : b.copy.size ≡ b.system.energy.size
  pub one-graph : b.system.energy.edges ≡ b.source.edges
  pub angles-before : b.angles + b.system.energy.size ≤ b.copy.entries
  pub diagonal-before : b.system.energy.diagonal + b.system.energy.size ≤ b.copy.entries
  pub off-before : b.system.energy.off + 2 * b.system.energy.edges ≤ b.copy.entries
  pub entries_below : b.copy.entries + 2 * b.copy.slots ≤ b.system.vectors.x

-- and after the mass matrix and the coordinates
pub record CopyBehind (b : BranchPlan) : Type 0 where
  pub mass-before : b.system.mass.diagonal + b.system.mass.size ≤ b.copy.entries
  pub mass-off-before : b.system.mass.off + 2 * b.system.mass.edges ≤ b.copy.entries
  pub x-before : b.outer.x + b.system.energy.size ≤ b.copy.entries
  pub y-before : b.outer.y + b.system.energy.size ≤ b.copy.entries

-- all of the copy that depends on the edges alone stands in u, made from the edges with these ends
pub record Copies (u from to : List ℕ) (b : BranchPlan) : Type 0 where
  pub ready : Ready u b.copy b.source
  pub lower : from ≡ pack.from_list b.source u
  pub upper : to ≡ pack.to_list b.source u

-- where the inverse iteration works
abbrev pub pencil_at : BranchPlan → PencilPlan
pencil_at b = record { mass = b.system.mass; energy = b.system.energy; vectors = b.system.vectors; copy = b.copy }

-- the soft terms that are asked for
abbrev pub terms_at : Layout → Options → Search → Terms
terms_at l o s = record { guided = s.guided; weight = s.weight; guidance = l.guidance; alignment = alignment_weight o.anisotropy; angle = o.anisotropy_angle }

-- none of them acts
unfoldable pub none_acts : Terms → Bool
none_acts t = not (lt (lit 0) t.alignment) && not (t.guided && lt (lit 0) t.weight)

-- ---- the branches' promises, over the matrices in the slice

abbrev pub LeavesLinear : (w w' : List Float) (b : BranchPlan) (from to : List ℕ) → Verdict → Type 0
LeavesLinear w w' b from to r =
    Leaves w w' b (linear b.system.energy.size b.outer.iterations (system_in w b.system.energy b.system.vectors from to)) r

abbrev pub LeavesSoft : (w w' : List Float) (b : BranchPlan) (from to : List ℕ) → Verdict → Type 0
LeavesSoft w w' b from to r =
    Leaves w w' b
    (linear b.system.energy.size b.outer.iterations (soft_system (mass_in w b.system from to) (energy_in w b.system from to) (soft_in w b.system) b.system.energy.size))
    r

-- both matrices, and the trace
abbrev pub pair_in : List Float → BranchPlan → List ℕ → List ℕ → Built
pair_in w b from to = record { mass = mass_in w b.system from to; energy = energy_in w b.system from to; trace = b.outer.trace }

-- the start vector of the points
abbrev pub start_at : List Float → BranchPlan → List Complex
start_at w b = start_in w b.outer b.system.energy.size

abbrev pub LeavesVector : (w w' : List Float) (b : BranchPlan) (from to : List ℕ) → Verdict → Type 0
LeavesVector w w' b from to r =
    Leaves w w' b
    (after_vector (inverse_of (mass_in w b.system from to) (energy_in w b.system from to) b.outer.trace b.outer.iterations (start_at w b)))
    r

abbrev pub LeavesFree : (w w' : List Float) (b : BranchPlan) (from to : List ℕ) → Verdict → Type 0
LeavesFree w w' b from to r =
    Leaves w w' b (free (pair_in w b from to) b.system.energy.size (start_at w b) (soft_in w b.system) b.outer.iterations) r

abbrev pub LeavesWeak : (w w' : List Float) (b : BranchPlan) (weight : Float) (flags from to : List ℕ) → Verdict → Type 0
LeavesWeak w w' b weight flags from to r =
    Leaves w w' b
    (weak weight (pair_in w b from to) b.system.energy.size flags (targets_at w b.system) (soft_in w b.system) b.outer.iterations)
    r

abbrev pub LeavesTangent : (w w' : List Float) (b : BranchPlan) (flags from to : List ℕ) → Verdict → Type 0
LeavesTangent w w' b flags from to r =
    Leaves w w' b
    (tangent (pair_in w b from to) b.system.energy.size flags (targets_at w b.system) (soft_in w b.system) b.outer.iterations)
    r

abbrev pub LeavesBy : (mode : BoundaryMode) (w w' : List Float) (b : BranchPlan) (flags from to : List ℕ) → Verdict → Type 0
LeavesBy mode w w' b flags from to r =
    Leaves w w' b
    (by_mode mode (pair_in w b from to) b.system.energy.size flags (targets_at w b.system) (start_at w b) (soft_in w b.system) b.outer.iterations)
    r

-- ---- and at a layout, with the flags and the targets that stand there

abbrev pub outer_at : Layout → Search → Outer
outer_at l s = record { x = l.x; y = l.y; trace = s.trace; iterations = s.iterations }

abbrev pub plan_at : Layout → ℕ → Options → Search → BranchPlan
plan_at l m o s = record {
  system = record { energy = energy_at l m; mass = mass_at l m; vectors = vectors_at l; targets = l.targets; terms = terms_at l o s };
  copy = packing_at l m;
  source = source_at l m;
  angles = l.angles;
  outer = outer_at l s;
}

abbrev pub flags_at : Layout → List ℕ → List ℕ
flags_at l u = region 0 u l.flags l.points

abbrev pub LeavesAt : (l : Layout) (m : ℕ) (o : Options) (s : Search) (w w' : List Float) (u : List ℕ) → Verdict → Type 0
LeavesAt l m o s w w' u r =
    LeavesBy o.boundary w w' (plan_at l m o s) (flags_at l u) (from_list l m u) (to_list l m u) r

-- off the boundary the targets are 0
abbrev pub Bounds : Layout → List Float → List ℕ → Type 0
Bounds l w u = boundary_data (flags_at l u) (region_c w l.targets l.points) ≡ region_c w l.targets l.points

-- m edges stand in u, and all of their packed copy that depends on them alone (`field_at` requires it)
pub record Packs (l : Layout) (m : ℕ) (u : List ℕ) : Type 0 where
  pub few : m ≤ 3 * l.triangles
  pub graph : Graph (mass_at l m) (from_list l m u) (to_list l m u)
  pub ready : Ready u (packing_at l m) (source_at l m)

-- what `packed_field` leaves: the field, and in the u32 work the packed copy's numbers and nothing else
pub record LeavesPacked (l : Layout) (m : ℕ) (o : Options) (s : Search) (w w' : List Float) (u u' : List ℕ) (r : Verdict) : Type 0 where
  pub leaves : LeavesAt l m o s w w' u r
  pub words : u' ≡ packed_in (packing_at l m) (source_at l m) u
  pub all_words : length u' ≡ length u
  pub words-below : (j : ℕ) → j < l.table → get_or u' j 0 ≡ get_or u j 0
  pub words-behind : (j : ℕ) → l.marks + l.points ≤ j → get_or u' j 0 ≡ get_or u j 0
