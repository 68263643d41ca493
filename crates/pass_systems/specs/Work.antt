-- The same in a work slice: the energy matrix, which becomes the system's, and the right-hand side in the solver's residual. Definitions only.
use Rattle.std.specs.Prelude.{ℕ, ◌+◌, ◌*◌, ◌≤◌, ◌≡◌, List, map, Float}
use Rattle.complex.specs.declared.Complex.{Complex}
use Rattle.linear_cells.specs.Cell.{region_c}
use Rattle.linear_hermitian.specs.Hermitian.{Matrix, applied}
use Rattle.linear_hermitian.specs.Work.{matrix}
use Rattle.linear_conjugate_gradient.specs.Work.{SolverRoom}
use Rattle.pass_constraints.specs.Constraints.{blanked}
use Rattle.pass_soft.specs.Soft.{Term, System, term_of}
use Rattle.pass_soft.specs.Work.{SoftRoom, system_in, terms_in, Kept, Softens}
use Rattle.pass_systems.specs.declared.SystemPlan.{SystemPlan}
use Rattle.pass_systems.specs.Systems.{soft_system, weak_system, fixed_by, tangent_system}

-- ---- lengths and offsets

-- the guidance angles below the energy matrix
pub record SystemRoom (len : ℕ) (s : SystemPlan) : Type 0 where
  pub soft-room : SoftRoom len s.energy s.mass s.vectors
  pub guidance-below : s.terms.guidance + s.energy.size ≤ s.energy.diagonal
  pub guidance-below-off : s.terms.guidance + s.energy.size ≤ s.energy.off

-- the boundary's targets between the energy matrix and the vectors
pub record TargetRoom (len : ℕ) (s : SystemPlan) : Type 0 where
  pub room : SolverRoom len s.energy s.vectors
  pub off-behind : s.energy.diagonal + s.energy.size ≤ s.energy.off
  pub targets-behind : s.energy.off + 2 * s.energy.edges ≤ s.targets
  pub targets-below : s.targets + 2 * s.energy.size ≤ s.vectors.x

-- ---- what stands there

abbrev pub mass_in : List Float → SystemPlan → List ℕ → List ℕ → Matrix
mass_in w s from to = matrix w s.mass from to

abbrev pub energy_in : List Float → SystemPlan → List ℕ → List ℕ → Matrix
energy_in w s from to = matrix w s.energy from to

-- the boundary's targets
abbrev pub targets_at : List Float → SystemPlan → List Complex
targets_at w s = region_c w s.targets s.energy.size

-- the solver's x
abbrev pub iterate_in : List Float → SystemPlan → List Complex
iterate_in w s = region_c w s.vectors.x s.energy.size

abbrev pub soft_in : List Float → SystemPlan → List Term
soft_in w s = terms_in w s.energy s.terms

-- soft terms with their targets blanked on the boundary
abbrev pub blanked_term : List ℕ → Term → Term
blanked_term flags t = record { weight = t.weight; target = blanked flags t.target }

abbrev pub blanked_terms : List ℕ → List Term → List Term
blanked_terms flags ts = map (blanked_term flags) ts

-- ---- what is left

-- the system made stands there, and the vector x in the solver's x. The solver's direction and the matrix times that are free, and all else stays
pub record Makes (w w' : List Float) (s : SystemPlan) (from to : List ℕ) (x : List Complex) (made : System) : Type 0 where
  pub system : system_in w' s.energy s.vectors from to ≡ made
  pub x-is : iterate_in w' s ≡ x
  pub kept : Kept w w' s.energy s.vectors

-- ---- the functions' promises: the solver's x stays, but in the tangent branch, where it is left with the coupling

abbrev pub MakesSoft : (w w' : List Float) (s : SystemPlan) (from to : List ℕ) → Type 0
MakesSoft w w' s from to = Makes w w' s from to (iterate_in w s) (soft_system (mass_in w s from to) (energy_in w s from to) (soft_in w s) s.energy.size)

abbrev pub MakesWeak : (w w' : List Float) (s : SystemPlan) (weight : Float) (flags from to : List ℕ) → Type 0
MakesWeak w w' s weight flags from to =
    Makes w w' s from to (iterate_in w s) (weak_system weight flags (targets_at w s) (mass_in w s from to) (energy_in w s from to) (soft_in w s))

-- the soft terms are added
abbrev pub SoftensBy : (w w' : List Float) (s : SystemPlan) (from to : List ℕ) → List Term → Type 0
SoftensBy w w' s from to ts = Softens w w' s.energy s.mass s.vectors from to ts

-- the term of the target in the direction's region, blanked
abbrev pub SoftensInside : (w w' : List Float) (s : SystemPlan) (weight : Float) (flags from to : List ℕ) → Type 0
SoftensInside w w' s weight flags from to = SoftensBy w w' s from to (term_of weight (blanked flags (region_c w s.vectors.direction s.energy.size)))

-- of any system, with the coupling in the solver's x
abbrev pub Fixes : (w w' : List Float) (s : SystemPlan) (flags from to : List ℕ) → Type 0
Fixes w w' s flags from to =
    Makes w w' s from to (iterate_in w s) (fixed_by flags (targets_at w s) (iterate_in w s) (system_in w s.energy s.vectors from to))

abbrev pub MakesTangent : (w w' : List Float) (s : SystemPlan) (flags from to : List ℕ) → Type 0
MakesTangent w w' s flags from to =
    Makes w w' s from to (applied (energy_in w s from to) (targets_at w s))
    (tangent_system flags (targets_at w s) (mass_in w s from to) (energy_in w s from to) (soft_in w s) s.energy.size)
