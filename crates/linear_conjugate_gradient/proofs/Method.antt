-- The memory form of conjugate gradients finds what `conjugate_gradient` says, whatever its other vectors hold at the start. And what it leaves has the lengths
-- that it was given. Assumes nothing.
use mathlib.Core.Path.{◌≡◌, refl}
use mathlib.Core.Bool.{Bool, true, false, cond}
use mathlib.Core.List.{List}
use Prim.Native.Nat.{ℕ, zero, suc}
use native.Mathlib.Omega.{arith}
use lib.ListN.{length}
use lib.Ieee.{Float, le}
use Rattle.float.specs.Double.{not_positive, ◌⊗◌, ◌⊘◌}
use Rattle.complex.specs.declared.Complex.{Complex}
use Rattle.linear_hermitian.specs.Hermitian.{Matrix, vector_norm}
use Rattle.std.specs.Prelude.{Option, Some, None, Result, Ok, Err}
use Rattle.std.specs.Option.{option_map_or}
use Rattle.linear_conjugate_gradient.specs.declared.Reason.{Reason}
use Rattle.linear_conjugate_gradient.specs.declared.Reason.TheVariants.{Denominator, LostDefiniteness}
use Rattle.linear_conjugate_gradient.specs.Answer.{reason, place}
use Rattle.linear_conjugate_gradient.specs.Found.{Found, vector, gave}
use Rattle.linear_conjugate_gradient.specs.Method.{first_not_positive, LoopState, step_by, steps, conjugate_gradient}
use Rattle.linear_conjugate_gradient.specs.Solve.{State, Iteration, Outcome, iteration, preconditioned, residual_dot, begun, multiplied, denominator, reduced, advanced, directed, judged, stepped, iteration_of, after, run, started, solved}
use Rattle.linear_conjugate_gradient.proofs.Lays.{Sized}
use Rattle.linear_conjugate_gradient.proofs.Iterations.{begun_sized}
use Rattle.linear_conjugate_gradient.proofs.Runs.{run-sized}

-- ---- what an answer says, with the vector that is left

unfoldable pub answered : Result ℕ Reason → List Complex → Found
answered (Ok count) x = vector x
answered (Err r) x = gave (reason r) (place r)

abbrev pub found_in : Outcome → Found
found_in o = answered o.answer o.state.x

-- a vector that is found is the one that was left
pub answered-held : (a : Result ℕ Reason) (x v : List Complex) → answered a x ≡ vector v → x ≡ v
unfolding answered
answered-held (Ok count) x v e = cc
answered-held (Err r) x v e = let z : ◌≡◌ {A = ℕ} 0 1 = cc in absurd (omega arith)

-- ---- the two forms find the same

-- one test: they find the same in either case
either : (b : Bool) (o q : Outcome) (f g : Found) → found_in o ≡ f → found_in q ≡ g → found_in (cond b o q) ≡ cond b f g
either true o q f g y z = y
either false o q f g y z = z

-- the search for a vertex: they find the same in either case
at-vertex : (v : Option ℕ) (o : ℕ → Outcome) (q : Outcome) (f : ℕ → Found) (g : Found) → ((i : ℕ) → found_in (o i) ≡ f i) → found_in q ≡ g
    → found_in (option_map_or o v q) ≡ option_map_or f v g
at-vertex None o q f g y z = z
at-vertex (Some i) o q f g y z = y i

-- the three tests of an iteration: t has the product, u the step, v the new direction
tests : (b c d : Bool) (t u v : State) (dot : Float) (count : ℕ) (f : Float → State → Outcome) (g : Found) → found_in (f dot v) ≡ g
    → (i : Iteration) → i ≡ cond b (iteration (Err Denominator) t) (cond c (iteration (Ok None) u) (cond d (iteration (Err LostDefiniteness) u) (iteration (Ok (Some dot)) v)))
    → found_in (after i.result i.state count f) ≡ cond b (gave 6 0) (cond c (vector u.x) (cond d (gave 7 0) g))
unfolding after answered reason place
tests true c d t u v dot count f g h i e = rw e
tests false true d t u v dot count f g h i e = rw e
tests false false true t u v dot count f g h i e = rw e
tests false false false t u v dot count f g h i e = rw e h

module _ (m : Matrix) (limit : Float) where
  -- what the loop carries, where the vectors are s
  abbrev loop_state : Float → State → LoopState
  loop_state dot s = record { x = s.x; residual = s.r; direction = s.p; residual_dot = dot }

  run-steps : (k i : ℕ) (dot : Float) (s : State) → found_in (run m limit k i dot s) ≡ steps m s.inverse limit k (loop_state dot s)
  unfolding run steps step_by iteration_of stepped judged multiplied denominator reduced advanced directed preconditioned residual_dot answered reason place
  run-steps zero i dot s = refl
  run-steps (suc k) i dot s =
      let t : State = multiplied m s in
      let alpha : Float = dot ⊘ denominator t in
      let u : State = advanced alpha (reduced alpha t) in
      let next : Float = residual_dot u in
      let v : State = directed (next ⊘ dot) u in
      tests (not_positive (denominator t)) (le (vector_norm u.r) limit) (not_positive next) t u v next (suc i) (run m limit k (suc i))
      (steps m s.inverse limit k (loop_state next v)) (run-steps k (suc i) next v) (iteration_of m limit dot s) refl

pub solved-method : (m : Matrix) (tolerance : Float) (k : ℕ) (s : State) → found_in (solved m tolerance k s) ≡ conjugate_gradient m tolerance k s.r
unfolding solved started conjugate_gradient begun residual_dot preconditioned answered reason place
solved-method m tolerance k s =
    let t : State = begun m.diagonal s in
    let limit : Float = tolerance ⊗ vector_norm s.r in
    either (not_positive (vector_norm s.r)) _ _ _ _ refl
    (at-vertex (first_not_positive m.diagonal) _ _ _ _ (λ i. refl)
    (either (not_positive (residual_dot t)) _ _ _ _ refl (run-steps m limit k 0 (residual_dot t) t)))

-- ---- what the solver leaves is sized

picked-sized : (n : ℕ) (b : Bool) (o q : Outcome) → Sized n o.state → Sized n q.state → Sized n (cond b o q).state
picked-sized n true o q y z = y
picked-sized n false o q y z = z

vertex-sized : (n : ℕ) (v : Option ℕ) (o : ℕ → Outcome) (q : Outcome) → ((i : ℕ) → Sized n (o i).state) → Sized n q.state → Sized n (option_map_or o v q).state
vertex-sized n None o q y z = z
vertex-sized n (Some i) o q y z = y i

pub solved-sized : (n : ℕ) (m : Matrix) (tolerance : Float) (k : ℕ) (s : State) → length m.diagonal ≡ n → Sized n s → Sized n (solved m tolerance k s).state
unfolding solved started
solved-sized n m tolerance k s h z =
    let t : State = begun m.diagonal s in
    let y : Sized n t = begun_sized n m.diagonal s h z in
    let limit : Float = tolerance ⊗ vector_norm s.r in
    picked-sized n (not_positive (vector_norm s.r)) _ _ z
    (vertex-sized n (first_not_positive m.diagonal) _ _ (λ i. z)
    (picked-sized n (not_positive (residual_dot t)) _ _ y (run-sized n m limit k 0 (residual_dot t) t y)))
