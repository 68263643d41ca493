-- What the functions of the inverse iteration require of a work slice, and leave there. n is the energy's size, and the mass matrix has the same.
use Rattle.std.specs.Prelude.{◌≡◌, Bool, true, false, List, ℕ, ◌+◌, ◌≤◌, Float, Result, Ok, Err}
use Rattle.std.specs.Float.{nan}
use Rattle.float.specs.Double.{◌⊘◌}
use Rattle.complex.specs.declared.Complex.{Complex}
use Rattle.linear_cells.specs.Region.{region}
use Rattle.linear_cells.specs.Cell.{region_c}
use Rattle.linear_hermitian.specs.Hermitian.{dot_of, vector_norm, applied}
use Rattle.linear_hermitian.specs.Work.{matrix, Graph}
use Rattle.linear_conjugate_gradient.specs.declared.Vectors.{Vectors}
use Rattle.linear_conjugate_gradient.specs.Method.{mass_squared, normalized_of}
use Rattle.linear_conjugate_gradient.specs.Solve.{State}
use Rattle.linear_conjugate_gradient.specs.Work.{read, lay, SolverRoom}
use Rattle.refusals.specs.declared.Refusal.{Refusal}
use Rattle.refusals.specs.Refusal.{Verdict}
use Rattle.pass_inverse_iteration.specs.Start.{start_of}
use Rattle.linear_conjugate_gradient.specs.Found.{Found, vector}
use Rattle.pass_solution.specs.Work.{found_stage, Framed, Answers}
use Rattle.pass_inverse_iteration.specs.declared.Limits.{Limits}
use Rattle.pass_inverse_iteration.specs.declared.Outer.{Outer}
use Rattle.pass_inverse_iteration.specs.declared.PencilPlan.{PencilPlan}
use Rattle.pass_inverse_iteration.specs.declared.Quotient.{Quotient}
use Rattle.pass_inverse_iteration.specs.Inverse.{Pencil, next_of, iterated, inverse_of}
use Rattle.pass_inverse_iteration.specs.Memory.{Step, going, ended, outer_judged, outer_iteration, quoted, left_over, subtracted, next_left, judged_left, iteration_left, iterated_left, start_left, inverse_left}

-- ---- what is required

-- both matrices lie below the vectors
pub record PencilRoom (len : ℕ) (p : PencilPlan) : Type 0 where
  pub one_size : p.mass.size ≡ p.energy.size
  pub mass-room : SolverRoom len p.mass p.vectors
  pub energy-room : SolverRoom len p.energy p.vectors

-- the coordinates do too
pub record PlanesBelow (n : ℕ) (l : Vectors) (o : Outer) : Type 0 where
  pub x_below : o.x + n ≤ l.x
  pub y-below : o.y + n ≤ l.x

-- both matrices have the edges from and to
pub record Graphs (p : PencilPlan) (from to : List ℕ) : Type 0 where
  pub mass-graph : Graph p.mass from to
  pub energy-graph : Graph p.energy from to

-- ---- the pencil that a slice holds

-- by both matrices and the limits
abbrev pub pencil : List Float → PencilPlan → List ℕ → List ℕ → Limits → Pencil
pencil w p from to o = record { mass = matrix w p.mass from to; energy = matrix w p.energy from to; average = o.average; most = o.most }

-- the iterate, and all of the solver's vectors
abbrev pub iterate_in : List Float → PencilPlan → List Complex
iterate_in w p = region_c w p.vectors.x p.energy.size

abbrev pub vectors_in : List Float → PencilPlan → State
vectors_in w p = read w p.energy.size p.vectors

-- ---- what the functions leave and return

-- `rayleigh`: the quotient's parts, from the products with both matrices
pub record Quotients (w w' : List Float) (p : PencilPlan) (from to : List ℕ) (q : Quotient) : Type 0 where
  pub work : w' ≡ lay w p.energy.size p.vectors (quoted (matrix w p.mass from to) (matrix w p.energy from to) (vectors_in w p))
  pub numerator : q.numerator ≡ (dot_of (iterate_in w p) (applied (matrix w p.energy from to) (iterate_in w p))).re
  pub denominator : q.denominator ≡ mass_squared (matrix w p.mass from to) (iterate_in w p)

-- `relative`: the residual's norm over the average
pub record Relative (w w' : List Float) (n : ℕ) (l : Vectors) (lambda average r : Float) : Type 0 where
  pub work : w' ≡ lay w n l (subtracted lambda (read w n l))
  pub result : r ≡ vector_norm (left_over lambda (read w n l)) ⊘ average

-- an iteration's answer: whether the method ends with the iterate, or the refusal that it ends with
abbrev pub Progress : Type 0
Progress = Result Bool Refusal

abbrev pub ended_as : Verdict → Progress
ended_as (Ok _) = Ok true
ended_as (Err x) = Err x

unfoldable pub progress_of : Step → Progress
progress_of (going x) = Ok false
progress_of (ended f) = ended_as (found_stage f)

-- the vector that it leads on with, or what it found
unfoldable pub carried : Step → Found
carried (going x) = vector x
carried (ended f) = f

-- w' is w with the solver's vectors as they are in t. A vector that the iteration leads on with, or that it found, stands at the solver's x
pub record Steps (w w' : List Float) (n : ℕ) (l : Vectors) (t : State) (i : Step) (r : Progress) : Type 0 where
  pub frame : Framed w w' n l
  pub left : read w' n l ≡ t
  pub progress : r ≡ progress_of i
  pub held : (v : List Complex) → carried i ≡ vector v → region_c w' l.x n ≡ v

-- ---- the functions' promises, over the iterate at the solver's x

-- `judge`
abbrev pub Judges : (w w' : List Float) (p : PencilPlan) (from to : List ℕ) (o : Limits) → Progress → Type 0
Judges w w' p from to o r =
    Steps w w' p.energy.size p.vectors
    (judged_left (pencil w p from to o) (vectors_in w p))
    (outer_judged (pencil w p from to o) (iterate_in w p))
    r

-- `iterate_once`
abbrev pub IteratesOnce : (w w' : List Float) (p : PencilPlan) (from to : List ℕ) (o : Limits) → Progress → Type 0
IteratesOnce w w' p from to o r =
    Steps w w' p.energy.size p.vectors
    (iteration_left (pencil w p from to o) (vectors_in w p))
    (outer_iteration (pencil w p from to o) (iterate_in w p))
    r

-- `next`
abbrev pub TakesNext : (w w' : List Float) (p : PencilPlan) (from to : List ℕ) (o : Limits) → Verdict → Type 0
TakesNext w w' p from to o r =
    Answers w w' p.energy.size p.vectors
    (next_left (pencil w p from to o) (vectors_in w p))
    (next_of (pencil w p from to o) (iterate_in w p))
    r

-- `iterate`
abbrev pub Iterates : (w w' : List Float) (p : PencilPlan) (from to : List ℕ) (o : Limits) (k : ℕ) → Verdict → Type 0
Iterates w w' p from to o k r =
    Answers w w' p.energy.size p.vectors
    (iterated_left (pencil w p from to o) k (vectors_in w p))
    (iterated (pencil w p from to o) k (iterate_in w p))
    r

-- the start vector of the points, whose coordinates stand in two planes
abbrev pub start_in : List Float → Outer → ℕ → List Complex
start_in w o n = start_of (region nan w o.x n) (region nan w o.y n)

-- `begin`
abbrev pub Starts : (w w' : List Float) (p : PencilPlan) (from to : List ℕ) (o : Outer) → Verdict → Type 0
Starts w w' p from to o r =
    Answers w w' p.mass.size p.vectors
    (start_left (matrix w p.mass from to) (start_in w o p.mass.size) (read w p.mass.size p.vectors))
    (normalized_of (matrix w p.mass from to) (start_in w o p.mass.size))
    r

-- `inverse_iteration`
abbrev pub Inverts : (w w' : List Float) (p : PencilPlan) (from to : List ℕ) (o : Outer) → Verdict → Type 0
Inverts w w' p from to o r =
    Answers w w' p.energy.size p.vectors
    (inverse_left (matrix w p.mass from to) (matrix w p.energy from to) o.trace o.iterations (start_in w o p.energy.size) (vectors_in w p))
    (inverse_of (matrix w p.mass from to) (matrix w p.energy from to) o.trace o.iterations (start_in w o p.energy.size))
    r
