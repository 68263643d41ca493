-- What the solver's calls leave in a work slice, and answer.
use Rattle.std.specs.Prelude.{◌≡◌, List, ℕ, Float, Ok, Err}
use Rattle.complex.specs.declared.Complex.{Complex}
use Rattle.linear_cells.specs.Cell.{region_c}
use Rattle.linear_hermitian.specs.declared.Hermitian.{Hermitian}
use Rattle.linear_hermitian.specs.Hermitian.{Matrix, applied}
use Rattle.linear_hermitian.specs.Work.{matrix}
use Rattle.linear_conjugate_gradient.specs.declared.Vectors.{Vectors}
use Rattle.linear_conjugate_gradient.specs.declared.Reason.{Reason}
use Rattle.linear_conjugate_gradient.specs.Answer.{number, reason, place}
use Rattle.linear_conjugate_gradient.specs.Found.{Found, vector, gave}
use Rattle.linear_conjugate_gradient.specs.Method.{mass_squared, normalized_of}
use Rattle.linear_conjugate_gradient.specs.Solve.{State, solved, normalized_vector}
use Rattle.linear_conjugate_gradient.specs.Work.{read, lay}
use Rattle.refusals.specs.declared.Refusal.{Refusal}
use Rattle.refusals.specs.Refusal.{gave_up, Verdict}
use Rattle.pass_solution.specs.Solution.{inner_tolerance, solution_of}

-- what document 01 says of a reason of the solver: the row, the reason and the place
abbrev pub refusal_of : Reason → Refusal
refusal_of r = record { number = number r; place = place r; other = 0; pass = 0; reason = reason r }

-- a vector is a stage done; a reason is row 24
unfoldable pub found_stage : Found → Verdict
found_stage (vector v) = Ok tt
found_stage (gave r i) = Err (gave_up r i)

-- nothing but the solver's vectors is written
abbrev pub Framed : List Float → List Float → ℕ → Vectors → Type 0
Framed w w' n l = w' ≡ lay w n l (read w' n l)

-- w' is w with the solver's vectors as they are in t: nothing else is written, and nothing of them is free. A vector that is found stands at the solver's x
pub record Answers (w w' : List Float) (n : ℕ) (l : Vectors) (t : State) (f : Found) (r : Verdict) : Type 0 where
  pub frame : Framed w w' n l
  pub left : read w' n l ≡ t
  pub stage : r ≡ found_stage f
  pub held : (v : List Complex) → f ≡ vector v → region_c w' l.x n ≡ v

-- two stages: the second goes on by k from the vectors t that the first left, where that found a vector
unfoldable pub left_by : Found → State → (State → State) → State
left_by (vector v) t k = k t
left_by (gave r i) t k = t

-- ---- `solve`: the system of the matrix at h and the right-hand side in the residual's region

-- the vectors at the end, whatever is found
abbrev pub solved_left : Matrix → ℕ → State → State
solved_left m most s = (solved m inner_tolerance most s).state

-- `solve`
abbrev pub Solves : (w w' : List Float) (h : Hermitian) (l : Vectors) (from to : List ℕ) (most : ℕ) → Verdict → Type 0
Solves w w' h l from to most r =
    Answers w w' h.size l
    (solved_left (matrix w h from to) most (read w h.size l))
    (solution_of (matrix w h from to) most (region_c w l.residual h.size))
    r

-- ---- `normalize`: the vector at the solver's x

-- the mass matrix times the old x is left in the direction's place; x itself changes only where its norm is found
unfoldable pub normalized_left : Matrix → State → State
normalized_left mass s = record {
  x = normalized_vector (mass_squared mass s.x) s.x;
  r = s.r;
  p = applied mass s.x;
  q = s.q;
  inverse = s.inverse;
}

-- `normalize`
abbrev pub Normalizes : (w w' : List Float) (mass : Hermitian) (l : Vectors) (from to : List ℕ) → Verdict → Type 0
Normalizes w w' mass l from to r =
    Answers w w' mass.size l
    (normalized_left (matrix w mass from to) (read w mass.size l))
    (normalized_of (matrix w mass from to) (region_c w l.x mass.size))
    r
