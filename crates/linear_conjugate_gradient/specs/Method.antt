-- The Rust's `conjugate_gradient` (lines 1104 to 1170) and `normalize_in_mass` (lines 1173 to 1187) as functions of lists alone: a vector, or why there is
-- none. This is what a reader has to believe of the solver. The contracts say besides what every vector in memory holds at the end: Solve.antt has the
-- method in that form, and proofs/Method.antt proves that it finds the same. Definitions only.
use Rattle.std.specs.Prelude.{ℕ, zero, suc, cond, List, length, replicate, Option, position, Float}
use Rattle.std.specs.Option.{option_map_or}
use Rattle.std.specs.Float.Ieee.{le}
use Rattle.float.specs.Double.{not_positive, recip_of, ◌⊗◌, ◌⊘◌}
use Rattle.root.specs.Root.{root_of}
use Rattle.complex.specs.declared.Complex.{Complex}
use Rattle.complex.specs.Complex.{czero}
use Rattle.linear_hermitian.specs.Hermitian.{Matrix, dot_of, vector_norm, scaled, applied}
use Rattle.linear_vectors.specs.Vectors.{zip_of, add_scaled, sub_scaled, recips_of, scaled_by}
use Rattle.linear_conjugate_gradient.specs.Found.{Found, vector, gave}

-- ---- conjugate_gradient

-- the first index whose value is not positive
abbrev pub first_not_positive : List Float → Option ℕ
first_not_positive d = position not_positive d

-- what the loop carries from one iteration to the next: the Rust's x, residual, direction and residual_dot
pub record LoopState : Type 0 where
  pub x : List Complex
  pub residual : List Complex
  pub direction : List Complex
  pub residual_dot : Float

-- one iteration, lines 1138 to 1165: reason 6; x where the residual is within the limit; reason 7; or on by `next`
unfoldable pub step_by : Matrix → List Float → Float → LoopState → (LoopState → Found) → Found
step_by m inverse limit s next =
    let product = applied m s.direction in
    let denominator = (dot_of s.direction product).re in
    let alpha = s.residual_dot ⊘ denominator in
    let x = zip_of (add_scaled alpha) s.x s.direction in
    let residual = zip_of (sub_scaled alpha) s.residual product in
    let preconditioned = scaled inverse residual in
    let next_dot = (dot_of preconditioned residual).re in
    let direction = zip_of (add_scaled (next_dot ⊘ s.residual_dot)) preconditioned s.direction in
    cond (not_positive denominator) (gave 6 0)
    (cond (le (vector_norm residual) limit) (vector x)
    (cond (not_positive next_dot) (gave 7 0)
    (next (record { x = x; residual = residual; direction = direction; residual_dot = next_dot }))))

-- at most k iterations, or reason 8
unfoldable pub steps : Matrix → List Float → Float → ℕ → LoopState → Found
steps m inverse limit zero s = gave 8 0
steps m inverse limit (suc k) s = step_by m inverse limit s (steps m inverse limit k)

-- the solution of m x = rhs, by at most k iterations: reasons 3, 4 and 5 first, and then from x = 0
unfoldable pub conjugate_gradient : Matrix → Float → ℕ → List Complex → Found
conjugate_gradient m tolerance k rhs =
    let inverse = recips_of m.diagonal in
    let preconditioned = scaled inverse rhs in
    let dot = (dot_of preconditioned rhs).re in
    cond (not_positive (vector_norm rhs)) (gave 3 0)
    (option_map_or (gave 4) (first_not_positive m.diagonal)
    (cond (not_positive dot) (gave 5 0)
    (steps m inverse (tolerance ⊗ vector_norm rhs) k
    (record { x = replicate (length rhs) czero; residual = rhs; direction = preconditioned; residual_dot = dot }))))

-- ---- normalize_in_mass

-- x^H M x
unfoldable pub mass_squared : Matrix → List Complex → Float
mass_squared mass x = (dot_of x (applied mass x)).re

-- x divided by its norm in the mass matrix, or reason 9
unfoldable pub normalized_of : Matrix → List Complex → Found
normalized_of mass x = cond (not_positive (mass_squared mass x)) (gave 9 0) (vector (scaled_by (recip_of (root_of (mass_squared mass x))) x))
