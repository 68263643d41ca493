-- How a work slice holds a linear system, and what the functions require of it and leave there. The right-hand side stands in the solver's residual, a target
-- in its direction, and the mass matrix times it in the place of the matrix times the direction. Definitions only.
use Rattle.std.specs.Prelude.{◌≡◌, cond, List, [], ◌++◌, ℕ, ◌+◌, ◌*◌, ◌≤◌, length, Float}
use Rattle.std.specs.Float.{nan}
use Rattle.linear_cells.specs.Region.{region, Apart}
use Rattle.linear_cells.specs.Cell.{region_c}
use Rattle.linear_hermitian.specs.declared.Hermitian.{Hermitian}
use Rattle.linear_hermitian.specs.Work.{matrix, ShiftRoom}
use Rattle.linear_conjugate_gradient.specs.declared.Vectors.{Vectors}
use Rattle.linear_conjugate_gradient.specs.Work.{SolverRoom}
use Rattle.pass_soft.specs.declared.Terms.{Terms}
use Rattle.pass_soft.specs.Soft.{System, Term, guided_targets, aligned_targets, term_of, softened}

-- ---- lengths and offsets

pub record GuideRoom (len guidance target n : ℕ) : Type 0 where
  pub guidance-in : guidance + n ≤ len
  pub target-in : target + 2 * n ≤ len
  pub target-guidance : Apart target (2 * n) guidance n

-- both matrices below the vectors, and apart from each other
pub record SoftRoom (len : ℕ) (h mass : Hermitian) (l : Vectors) : Type 0 where
  pub shift-room : ShiftRoom len h mass
  pub off-mass : Apart h.off (2 * h.edges) mass.diagonal h.size
  pub h-room : SolverRoom len h l
  pub mass-room : SolverRoom len mass l

-- ---- what stands there

-- the system of the matrix at h
abbrev pub system_in : List Float → Hermitian → Vectors → List ℕ → List ℕ → System
system_in w h l from to = record { matrix = matrix w h from to; rhs = region_c w l.residual h.size }

-- the terms, with the guidance angles in the slice
abbrev pub guided_in : List Float → Hermitian → Terms → List Term
guided_in w h t = cond t.guided (term_of t.weight (guided_targets (region nan w t.guidance h.size))) []

abbrev pub aligned_in : Hermitian → Terms → List Term
aligned_in h t = term_of t.alignment (aligned_targets t.angle h.size)

abbrev pub terms_in : List Float → Hermitian → Terms → List Term
terms_in w h t = guided_in w h t ++ aligned_in h t

-- ---- what is left

-- the m numbers from c on lie outside the matrix at h and outside the solver's vectors; its inverse is not counted among these
pub record Outside (h : Hermitian) (l : Vectors) (c m : ℕ) : Type 0 where
  pub diagonal : Apart h.diagonal h.size c m
  pub off : Apart h.off (2 * h.edges) c m
  pub x : Apart l.x (2 * h.size) c m
  pub residual : Apart l.residual (2 * h.size) c m
  pub direction : Apart l.direction (2 * h.size) c m
  pub applied : Apart l.applied (2 * h.size) c m

-- all that lies outside stays: below the vectors, between them, the inverse, and all behind it
pub record Kept (w w' : List Float) (h : Hermitian) (l : Vectors) : Type 0 where
  pub all : length w' ≡ length w
  pub else : (c m : ℕ) → Outside h l c m → region nan w' c m ≡ region nan w c m

-- the terms are added to the system, and the solver's x stays. Its direction and the matrix times that are free, and nothing else
pub record Softens (w w' : List Float) (h mass : Hermitian) (l : Vectors) (from to : List ℕ) (ts : List Term) : Type 0 where
  pub system : system_in w' h l from to ≡ softened (matrix w mass from to) ts (system_in w h l from to)
  pub x-stays : region_c w' l.x h.size ≡ region_c w l.x h.size
  pub kept : Kept w w' h l
