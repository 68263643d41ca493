-- The second part of a pass, over lists: from the two matrices to the field, by the branch that the options choose: tangent, weak, soft terms, or inverse
-- iteration. Lines 1435 to 1623 of the Rust's solve_mesh. Definitions only.
use Rattle.std.specs.Prelude.{ℕ, Bool, true, false, cond, ◌&&◌, List, [], ◌∷◌, ◌++◌, eqb, length, Float}
use Rattle.std.specs.Float.Ieee.{lt}
use Rattle.float.specs.Double.{lit}
use Rattle.complex.specs.declared.Complex.{Complex}
use Rattle.linear_hermitian.specs.Hermitian.{Matrix}
use Rattle.geometry.specs.Edge.{alignment_weight}
use Rattle.pass_boundary.specs.Boundary.{boundary_sides, targets_of, flags_of}
use Rattle.pass_soft.specs.Soft.{Term, System, term_of, guided_targets, aligned_targets}
use Rattle.pass_systems.specs.Systems.{soft_system, weak_system, tangent_system}
use Rattle.linear_conjugate_gradient.specs.Found.{Found, vector, gave}
use Rattle.pass_solution.specs.Solution.{solution_of, linear_most}
use Rattle.pass_inverse_iteration.specs.Start.{start_of}
use Rattle.pass_inverse_iteration.specs.Inverse.{inverse_of}
use Rattle.pass_field.specs.Field.{Angles, angles, endless, field_of}
use Rattle.floor.specs.Floor.{Floor, point_count, value_at}
use Rattle.refusals.specs.Refusal.{row_at, gave_up}
use Rattle.pass_options.specs.declared.Options.{Options}
use Rattle.pass_options.specs.declared.BoundaryMode.{BoundaryMode}
use Rattle.pass_options.specs.declared.BoundaryMode.TheVariants.{None, Tangent, Weak}
use Rattle.pass_options.specs.Options.{Guidance, unguided, guided}
use Rattle.pass_options.specs.Pass.{Passed, field, faulty}

-- what was made of the floor: the mass matrix, the energy matrix with its shift, and the energy's trace before it
pub record Built : Type 0 where
  pub mass : Matrix
  pub energy : Matrix
  pub trace : Float

-- ---- the soft terms, lines 1439 to 1456: guidance first, then the alignment with an anisotropic metric

abbrev pub guided_term : Guidance → List Term
guided_term unguided = []
guided_term (guided weight guidance) = term_of weight (guided_targets guidance)

unfoldable pub soft_terms : Options → Guidance → ℕ → List Term
soft_terms o g n = guided_term g ++ term_of (alignment_weight o.anisotropy) (aligned_targets o.anisotropy_angle n)

-- `soft.is_empty()`
abbrev pub no_terms : List Term → Bool
no_terms [] = true
no_terms (t ∷ ts) = false

-- ---- the boundary, lines 1458 to 1464

-- a mode acts if it is tangent, or weak with a weight above 0: the Rust's `constrained`
abbrev pub acts : BoundaryMode → Bool
acts None = false
acts Tangent = true
acts (Weak weight) = lt (lit 0) weight

-- which points lie on the boundary, and their targets
unfoldable pub flags_in : Floor → List ℕ
flags_in f = flags_of f.triangles (point_count f)

unfoldable pub targets_in : Floor → List Complex
targets_in f = targets_of (value_at f.xs) (value_at f.ys) f.triangles (point_count f)

-- ---- from a vector to the field

abbrev pub after_angles : Angles → Passed
after_angles (angles alpha) = field alpha
after_angles endless = faulty (gave_up 13 0)

abbrev pub after_vector : Found → Passed
after_vector (vector v) = after_angles (field_of v)
after_vector (gave reason place) = faulty (gave_up reason place)

-- a linear system's solution, of n points
unfoldable pub linear : ℕ → ℕ → System → Passed
linear n iterations s = after_vector (solution_of s.matrix (linear_most n iterations) s.rhs)

-- ---- the branches, over n points

-- no boundary mode acts, lines 1535 to 1623: soft terms, or inverse iteration from a start vector
unfoldable pub free : Built → ℕ → List Complex → List Term → ℕ → Passed
free b n start terms iterations =
    cond (no_terms terms) (after_vector (inverse_of b.mass b.energy b.trace iterations start)) (linear n iterations (soft_system b.mass b.energy terms n))

-- a boundary mode acts, lines 1465 to 1533, with a flag and a target for each point
abbrev pub tangent : Built → ℕ → List ℕ → List Complex → List Term → ℕ → Passed
tangent b n flags targets terms iterations = linear n iterations (tangent_system flags targets b.mass b.energy terms n)

abbrev pub weak : Float → Built → ℕ → List ℕ → List Complex → List Term → ℕ → Passed
weak weight b n flags targets terms iterations = linear n iterations (weak_system weight flags targets b.mass b.energy terms)

abbrev pub by_mode : BoundaryMode → Built → ℕ → List ℕ → List Complex → List Complex → List Term → ℕ → Passed
by_mode None b n flags targets start terms iterations = free b n start terms iterations
by_mode Tangent b n flags targets start terms iterations = tangent b n flags targets terms iterations
by_mode (Weak weight) b n flags targets start terms iterations = cond (lt (lit 0) weight) (weak weight b n flags targets terms iterations) (free b n start terms iterations)

-- row 23: "boundary mode acts, no side lies in exactly one triangle"
unfoldable pub unbounded : BoundaryMode → Floor → Bool
unbounded mode f = acts mode && eqb (length (boundary_sides f.triangles)) 0

-- what the branch that the options choose finds
abbrev pub searched : Built → Floor → Options → Guidance → ℕ → Passed
searched b f o g iterations = by_mode o.boundary b (point_count f) (flags_in f) (targets_in f) (start_of f.xs f.ys) (soft_terms o g (point_count f)) iterations

unfoldable pub branch_of : Built → Floor → Options → Guidance → ℕ → Passed
branch_of b f o g iterations = cond (unbounded o.boundary f) (faulty (row_at 23 0)) (searched b f o g iterations)
