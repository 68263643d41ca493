-- The memory form of conjugate gradients, which the contracts use: Method.antt's steps, with the answer as the code's `Result` and with what stands in every
-- vector at the end, whatever the answer. proofs/Method.antt proves that what it finds is `conjugate_gradient` of Method.antt. Definitions only.
use Rattle.std.specs.Prelude.{ℕ, zero, suc, cond, List, length, replicate, Option, Some, None, Result, Ok, Err, Float}
use Rattle.std.specs.Option.{option_map_or}
use Rattle.std.specs.Float.Ieee.{le}
use Rattle.float.specs.Double.{not_positive, recip_of, ◌⊗◌, ◌⊘◌}
use Rattle.root.specs.Root.{root_of}
use Rattle.complex.specs.declared.Complex.{Complex}
use Rattle.complex.specs.Complex.{czero}
use Rattle.linear_hermitian.specs.Hermitian.{Matrix, dot_of, vector_norm, scaled, applied}
use Rattle.linear_vectors.specs.Vectors.{zip_of, add_scaled, sub_scaled, recips_of, scaled_by}
use Rattle.linear_vectors.specs.Residual.{products_of}
use Rattle.linear_conjugate_gradient.specs.Method.{first_not_positive}
use Rattle.linear_conjugate_gradient.specs.declared.Reason.{Reason}
use Rattle.linear_conjugate_gradient.specs.declared.Reason.TheVariants.{RightHandNorm, Diagonal, FirstResidual, Denominator, LostDefiniteness, CountSpent, MassOfIterate}

-- ---- the vectors: the iterate, the residual, the direction, the matrix times the direction, and the inverse diagonal

-- every vector that the code keeps
pub record State : Type 0 where
  pub x : List Complex
  pub r : List Complex
  pub p : List Complex
  pub q : List Complex
  pub inverse : List Float

-- the residual times the inverse diagonal
unfoldable pub preconditioned : State → List Complex
preconditioned s = scaled s.inverse s.r

-- its product with the residual
unfoldable pub residual_dot : State → Float
residual_dot s = (dot_of (preconditioned s) s.r).re

-- before the first iteration. The residual is the right-hand side, which stands there already
unfoldable pub begun : List Float → State → State
begun diagonal s = record {
  x = replicate (length s.r) czero;
  r = s.r;
  p = scaled (recips_of diagonal) s.r;
  q = s.q;
  inverse = recips_of diagonal;
}

-- ---- an iteration

-- q = the matrix times p
unfoldable pub multiplied : Matrix → State → State
multiplied m s = record { x = s.x; r = s.r; p = s.p; q = applied m s.p; inverse = s.inverse }

-- the direction's product with the matrix times it
unfoldable pub denominator : State → Float
denominator s = (dot_of s.p s.q).re

-- r = r - q * alpha. q is left with the terms of the new residual's products, with itself and with the preconditioned residual
unfoldable pub reduced : Float → State → State
reduced alpha s = record {
  x = s.x;
  r = zip_of (sub_scaled alpha) s.r s.q;
  p = s.p;
  q = products_of s.inverse (zip_of (sub_scaled alpha) s.r s.q);
  inverse = s.inverse;
}

-- x = x + p * alpha
unfoldable pub advanced : Float → State → State
advanced alpha s = record { x = zip_of (add_scaled alpha) s.x s.p; r = s.r; p = s.p; q = s.q; inverse = s.inverse }

-- p = preconditioned + p * beta
unfoldable pub directed : Float → State → State
directed beta s = record { x = s.x; r = s.r; p = zip_of (add_scaled beta) (preconditioned s) s.p; q = s.q; inverse = s.inverse }

-- an iteration ends with the next residual dot, or none where it has converged, or a reason; and with the vectors
pub record Iteration : Type 0 where
  pub result : Result (Option Float) Reason
  pub state : State

-- both together
abbrev pub iteration : Result (Option Float) Reason → State → Iteration
iteration t s = record { result = t; state = s }

-- after the step by alpha, s being the vectors after it
unfoldable pub judged : Float → Float → State → Iteration
judged limit dot s =
    cond (le (vector_norm s.r) limit) (iteration (Ok None) s)
    (cond (not_positive (residual_dot s)) (iteration (Err LostDefiniteness) s)
    (iteration (Ok (Some (residual_dot s))) (directed (residual_dot s ⊘ dot) s)))

-- after the product, s having it
unfoldable pub stepped : Float → Float → State → Iteration
stepped limit dot s =
    cond (not_positive (denominator s)) (iteration (Err Denominator) s)
    (judged limit dot (advanced (dot ⊘ denominator s) (reduced (dot ⊘ denominator s) s)))

-- a whole iteration, from the residual dot before it
unfoldable pub iteration_of : Matrix → Float → Float → State → Iteration
iteration_of m limit dot s = stepped limit dot (multiplied m s)

-- ---- the method

-- the answer, which is the count of iterations or a reason, and the vectors at the end
pub record Outcome : Type 0 where
  pub answer : Result ℕ Reason
  pub state : State

-- both together
abbrev pub outcome : Result ℕ Reason → State → Outcome
outcome a s = record { answer = a; state = s }

-- it ends with this iteration, the count-th, or goes on by f
unfoldable pub after : Result (Option Float) Reason → State → ℕ → (Float → State → Outcome) → Outcome
after (Ok None) s count f = outcome (Ok count) s
after (Ok (Some dot)) s count f = f dot s
after (Err r) s count f = outcome (Err r) s

-- at most k iterations more, after i iterations
unfoldable pub run : Matrix → Float → ℕ → ℕ → Float → State → Outcome
run m limit zero i dot s = outcome (Err CountSpent) s
run m limit (suc k) i dot s = after (iteration_of m limit dot s).result (iteration_of m limit dot s).state (suc i) (run m limit k (suc i))

-- the first residual dot is tested, and then at most k iterations are made
unfoldable pub started : Matrix → Float → ℕ → State → Outcome
started m limit k s = cond (not_positive (residual_dot s)) (outcome (Err FirstResidual) s) (run m limit k 0 (residual_dot s) s)

-- the right-hand side's norm and the diagonal are tested, and then the method begins
unfoldable pub solved : Matrix → Float → ℕ → State → Outcome
solved m tolerance k s =
    cond (not_positive (vector_norm s.r)) (outcome (Err RightHandNorm) s)
    (option_map_or (λ i. outcome (Err (Diagonal i)) s) (first_not_positive m.diagonal)
    (started m (tolerance ⊗ vector_norm s.r) k (begun m.diagonal s)))

-- ---- normalize_in_mass

-- by the square of the mass norm: reason 9 where it is not positive
unfoldable pub normalized_answer : Float → Result (Unit {0}) Reason
normalized_answer squared = cond (not_positive squared) (Err MassOfIterate) (Ok tt)

-- each value times the reciprocal of the mass norm
unfoldable pub normalized_vector : Float → List Complex → List Complex
normalized_vector squared x = cond (not_positive squared) x (scaled_by (recip_of (root_of squared)) x)
