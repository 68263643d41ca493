-- The memory form of the inverse iteration, which the contracts use: how an iteration ends, and what each function leaves in the solver's vectors, whatever is
-- found. Each follows its definition of Inverse.antt, and s is the vectors before it, with the iterate at x. Definitions only.
use Rattle.std.specs.Prelude.{ℕ, zero, suc, not, cond, List, Float, length}
use Rattle.std.specs.Float.Ieee.{le}
use Rattle.float.specs.Double.{is_finite, not_positive}
use Rattle.complex.specs.declared.Complex.{Complex}
use Rattle.linear_hermitian.specs.Hermitian.{Matrix, applied}
use Rattle.linear_vectors.specs.Vectors.{zip_of, sub_scaled}
use Rattle.linear_vectors.specs.Residual.{products_of}
use Rattle.linear_conjugate_gradient.specs.Found.{Found, vector, gave}
use Rattle.linear_conjugate_gradient.specs.Method.{mass_squared, normalized_of}
use Rattle.linear_conjugate_gradient.specs.Solve.{State}
use Rattle.pass_solution.specs.Solution.{solution_of}
use Rattle.pass_solution.specs.Work.{left_by, solved_left, normalized_left}
use Rattle.pass_inverse_iteration.specs.Inverse.{Pencil, outer_tolerance, next_of, estimate_of, relative_of, pencil_of}

-- ---- `rayleigh` and `relative`

-- the mass times x in the direction's place, and the energy times x in the place of the matrix times the direction
unfoldable pub quoted : Matrix → Matrix → State → State
quoted mass energy s = record { x = s.x; r = s.r; p = applied mass s.x; q = applied energy s.x; inverse = s.inverse }

-- q minus the direction times lambda
abbrev pub left_over : Float → State → List Complex
left_over lambda s = zip_of (sub_scaled lambda) s.q s.p

-- that in its place, with the terms of its square in the direction's
unfoldable pub subtracted : Float → State → State
subtracted lambda s = record { x = s.x; r = s.r; p = products_of s.inverse (left_over lambda s); q = left_over lambda s; inverse = s.inverse }

-- ---- an iteration: `next`, `judge` and `iterate_once`

-- it leads on with the next iterate, or ends with what is found
pub data Step : Type 0 where
  going : List Complex → Step
  ended : Found → Step

-- what `judged_by` tells of the next iterate
unfoldable pub outer_judged : Pencil → List Complex → Step
outer_judged p next =
    cond (not_positive (mass_squared p.mass next)) (ended (gave 10 0))
    (cond (not (is_finite (estimate_of p next))) (ended (gave 11 0))
    (cond (le (relative_of p next) outer_tolerance) (ended (vector next)) (going next)))

-- on by f where there is a next iterate
unfoldable pub judged_from : Found → (List Complex → Step) → Step
judged_from (vector next) f = f next
judged_from (gave r i) f = ended (gave r i)

-- the iteration from x
unfoldable pub outer_iteration : Pencil → List Complex → Step
outer_iteration p x = judged_from (next_of p x) (outer_judged p)

-- on by f where the iteration leads on
unfoldable pub outer_after : Step → (List Complex → Found) → Found
outer_after (going x) f = f x
outer_after (ended found) f = found

-- the mass times x as the right-hand side
unfoldable pub with_right : Matrix → State → State
with_right mass s = record { x = s.x; r = applied mass s.x; p = s.p; q = s.q; inverse = s.inverse }

-- `next`: the solution, normalised where it is found
unfoldable pub next_left : Pencil → State → State
next_left p s =
    left_by (solution_of p.energy p.most (applied p.mass s.x)) (solved_left p.energy p.most (with_right p.mass s)) (normalized_left p.mass)

-- `judge`: the residual is made only where no reason is found before it
unfoldable pub judged_left : Pencil → State → State
judged_left p s =
    cond (not_positive (mass_squared p.mass s.x)) (quoted p.mass p.energy s)
    (cond (not (is_finite (estimate_of p s.x))) (quoted p.mass p.energy s) (subtracted (estimate_of p s.x) (quoted p.mass p.energy s)))

-- `iterate_once`
unfoldable pub iteration_left : Pencil → State → State
iteration_left p s = left_by (next_of p s.x) (next_left p s) (judged_left p)

-- ---- the iteration: `iterate`, `begin` and `inverse_iteration`

-- on by k from the vectors t that an iteration left, where it leads on
unfoldable pub after_left : Step → State → (State → State) → State
after_left (going x) t k = k t
after_left (ended found) t k = t

-- `iterate`: at most k iterations
unfoldable pub iterated_left : Pencil → ℕ → State → State
iterated_left p zero s = s
iterated_left p (suc k) s = after_left (outer_iteration p s.x) (iteration_left p s) (iterated_left p k)

-- the start vector at x, normalised
unfoldable pub start_left : Matrix → List Complex → State → State
start_left mass start s = normalized_left mass (record { x = start; r = s.r; p = s.p; q = s.q; inverse = s.inverse })

-- `inverse_iteration`
unfoldable pub inverse_left : Matrix → Matrix → Float → ℕ → List Complex → State → State
inverse_left mass energy trace iterations start s =
    left_by (normalized_of mass start) (start_left mass start s) (iterated_left (pencil_of mass energy trace (length start)) iterations)
