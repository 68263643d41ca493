-- The inverse iteration of the Rust's `solve_mesh`, lines 1551 to 1621, over lists: the smallest eigenpair of the shifted pencil. Definitions only.
use Rattle.std.specs.Prelude.{ℕ, zero, suc, not, cond, List, pos, length, Float}
use Rattle.std.specs.Float.{binary64}
use Rattle.std.specs.Float.Ieee.{le, of_int}
use Rattle.float.specs.Double.{lit, is_finite, not_positive, ◌⊘◌}
use Rattle.complex.specs.declared.Complex.{Complex}
use Rattle.linear_hermitian.specs.Hermitian.{Matrix, dot_of, vector_norm, applied}
use Rattle.linear_vectors.specs.Vectors.{zip_of, sub_scaled}
use Rattle.linear_conjugate_gradient.specs.Method.{mass_squared, normalized_of}
use Rattle.linear_conjugate_gradient.specs.Found.{Found, vector, gave}
use Rattle.pass_solution.specs.Solution.{onward, solution_of, inner_most}

-- OUTER_TOLERANCE, 1e-8
abbrev pub outer_tolerance : Float
outer_tolerance = lit 0x3e45_798e_e230_8c3a

-- both matrices, the energy shifted; the average of the energy's diagonal before its shift; and the most iterations of an inner solve
pub record Pencil : Type 0 where
  pub mass : Matrix
  pub energy : Matrix
  pub average : Float
  pub most : ℕ

-- ---- an iteration, from the iterate x

-- the next iterate, normalised
unfoldable pub next_of : Pencil → List Complex → Found
next_of p x = onward (solution_of p.energy p.most (applied p.mass x)) (normalized_of p.mass)

-- the estimate of the eigenvalue: the Rayleigh quotient
unfoldable pub estimate_of : Pencil → List Complex → Float
estimate_of p next = (dot_of next (applied p.energy next)).re ⊘ mass_squared p.mass next

-- `energy_next - mass_next * lambda`
unfoldable pub residual_by : Float → Pencil → List Complex → List Complex
residual_by lambda p next = zip_of (sub_scaled lambda) (applied p.energy next) (applied p.mass next)

-- the residual's norm over the average of the diagonal
unfoldable pub relative_of : Pencil → List Complex → Float
relative_of p next = vector_norm (residual_by (estimate_of p next) p next) ⊘ p.average

-- lines 1594 to 1615, of the next iterate: reasons 10 and 11, the iterate where its residual is small, or on by `further`
unfoldable pub judged_by : Pencil → List Complex → (List Complex → Found) → Found
judged_by p next further =
    cond (not_positive (mass_squared p.mass next)) (gave 10 0)
    (cond (not (is_finite (estimate_of p next))) (gave 11 0)
    (cond (le (relative_of p next) outer_tolerance) (vector next) (further next)))

-- ---- the iteration

-- at most k iterations, or reason 12
unfoldable pub iterated : Pencil → ℕ → List Complex → Found
iterated p zero x = gave 12 0
iterated p (suc k) x = onward (next_of p x) (λ next. judged_by p next (iterated p k))

-- `energy_trace / n as f64`
unfoldable pub average_of : Float → ℕ → Float
average_of trace n = trace ⊘ of_int binary64 (pos n)

-- over n vertices: trace is that of the energy before its shift
unfoldable pub pencil_of : Matrix → Matrix → Float → ℕ → Pencil
pencil_of mass energy trace n = record { mass = mass; energy = energy; average = average_of trace n; most = inner_most n }

-- from a start vector: mass, the shifted energy, and the trace of the energy before its shift
unfoldable pub inverse_of : Matrix → Matrix → Float → ℕ → List Complex → Found
inverse_of mass energy trace iterations start = onward (normalized_of mass start) (iterated (pencil_of mass energy trace (length start)) iterations)
