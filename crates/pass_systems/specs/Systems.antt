-- The linear systems of a pass's branches, over lists: lines 1470 to 1548 of the Rust's solve_mesh, as far as they build a matrix and a right-hand side.
-- `energy` is the energy matrix with its shift. Definitions only.
use Rattle.std.specs.Prelude.{ℕ, List, [], ◌∷◌, replicate, Float}
use Rattle.complex.specs.declared.Complex.{Complex}
use Rattle.complex.specs.Complex.{czero}
use Rattle.linear_hermitian.specs.Hermitian.{Matrix, applied, shifted_by}
use Rattle.pass_constraints.specs.Constraints.{dirichlet_rows, boundary_data, blanked, added_inside, coupled, penalties, penalised_by}
use Rattle.pass_soft.specs.Soft.{Term, System, softened}

-- the energy alone, over n points: lines 1480, 1516 and 1536
unfoldable pub plain : Matrix → ℕ → System
plain energy n = record { matrix = energy; rhs = replicate n czero }

-- ---- tangent, lines 1470 to 1509: the targets hold exactly on the boundary

-- lines 1482 to 1501: a soft term acts off the boundary alone
unfoldable pub inside_by : List ℕ → Matrix → Term → System → System
inside_by flags mass t s = record {
  matrix = shifted_by t.weight mass s.matrix;
  rhs = added_inside flags t.weight (applied mass (blanked flags t.target)) s.rhs;
}

unfoldable pub inside : List ℕ → Matrix → List Term → System → System
inside flags mass [] s = s
inside flags mass (t ∷ ts) s = inside flags mass ts (inside_by flags mass t s)

-- lines 1502 to 1509
unfoldable pub fixed_by : List ℕ → List Complex → List Complex → System → System
fixed_by flags targets coupling s = record { matrix = dirichlet_rows flags s.matrix; rhs = coupled flags targets coupling s.rhs }

-- the coupling, lines 1470 to 1479, is that of the energy before the soft terms
unfoldable pub tangent_system : List ℕ → List Complex → Matrix → Matrix → List Term → ℕ → System
tangent_system flags targets mass energy terms n =
    fixed_by flags targets (applied energy (boundary_data flags targets)) (inside flags mass terms (plain energy n))

-- ---- weak, lines 1514 to 1533: a penalty on the boundary, and then the soft terms, everywhere

unfoldable pub penalty : Float → List ℕ → List Complex → Matrix → Matrix → System
penalty weight flags targets mass energy = record { matrix = penalised_by flags weight mass energy; rhs = penalties flags weight mass.diagonal targets }

unfoldable pub weak_system : Float → List ℕ → List Complex → Matrix → Matrix → List Term → System
weak_system weight flags targets mass energy terms = softened mass terms (penalty weight flags targets mass energy)

-- ---- soft terms alone, lines 1535 to 1548

unfoldable pub soft_system : Matrix → Matrix → List Term → ℕ → System
soft_system mass energy terms n = softened mass terms (plain energy n)
