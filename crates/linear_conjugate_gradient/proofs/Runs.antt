-- The loop of iterations, and the whole method. Assumes nothing.
use mathlib.Core.Path.{◌≡◌, refl, sym, ap, ◌∙◌}
use mathlib.Core.Bool.{Bool, true, false}
use mathlib.Core.List.{List}
use Prim.Native.Nat.{ℕ, zero, suc, ◌+◌, ◌-◌, ◌≤◌, ◌<◌}
use native.Mathlib.Numerals.{add-one}
use native.Mathlib.Omega.{arith}
use lib.Ieee.{Float, nan}
use lib.ListN.{length}
use Rattle.float.specs.Double.{not_positive, ◌⊗◌}
use Rattle.linear_cells.specs.Region.{region}
use Rattle.linear_cells.specs.Cell.{region_c}
use Rattle.linear_cells.proofs.Regions.{length-region}
use Rattle.linear_hermitian.specs.declared.Hermitian.{Hermitian}
use Rattle.linear_hermitian.specs.Hermitian.{Matrix, vector_norm}
use Rattle.linear_hermitian.specs.Work.{matrix}
use Rattle.linear_conjugate_gradient.specs.declared.Vectors.{Vectors}
use Rattle.std.specs.Prelude.{Option, Some, None, Result, Ok, Err}
use Rattle.linear_conjugate_gradient.specs.declared.Reason.{Reason}
use Rattle.linear_conjugate_gradient.specs.declared.Reason.TheVariants.{RightHandNorm, Diagonal, FirstResidual, CountSpent}
use Rattle.linear_conjugate_gradient.specs.Method.{first_not_positive}
use Rattle.linear_conjugate_gradient.specs.Solve.{State, Outcome, begun, residual_dot, iteration_of, after, run, started, solved}
use Rattle.linear_conjugate_gradient.specs.Work.{read, lay, SolverRoom, Begun, Ended, Solved}
use Rattle.linear_conjugate_gradient.proofs.Lays.{Sized, read-sized, lay-read, get-all, get-matrix, lay-then}
use Rattle.linear_conjugate_gradient.proofs.Iterations.{begun_sized, iteration-sized}

-- ---- the loop

after-going : {t : Result (Option Float) Reason} (next : Float) (s : State) (count : ℕ) (f : Float → State → Outcome) → t ≡ Ok (Some next) → after t s count f ≡ f next s
unfolding after
after-going next s count f e = rw e

after-converged : {t : Result (Option Float) Reason} (s : State) (count : ℕ) (f : Float → State → Outcome) → t ≡ Ok None → after t s count f ≡ record { answer = Ok count; state = s }
unfolding after
after-converged s count f e = rw e

after-gave : {t : Result (Option Float) Reason} (s : State) (count : ℕ) (f : Float → State → Outcome) {r : Reason} → t ≡ Err r → after t s count f ≡ record { answer = Err r; state = s }
unfolding after
after-gave s count f e = rw e

module _ (w : List Float) (h : Hermitian) (l : Vectors) (from to : List ℕ) (limit first : Float) (most : ℕ) where
  abbrev pub whole : Outcome
  whole = run (matrix w h from to) limit most 0 first (read w h.size l)

  -- after i iterations the method has the same outcome from here
  pub record RunAt (w₁ : List Float) (i : ℕ) (dot : Float) : Type 0 where
    pub frame : w₁ ≡ lay w h.size l (read w₁ h.size l)
    pub same : whole ≡ run (matrix w h from to) limit (most - i) i dot (read w₁ h.size l)

  pub run_none : RunAt w 0 first
  run_none = record { frame = lay-read w h.size l; same = ap (λ k. run (matrix w h from to) limit k 0 first (read w h.size l)) (left most) }
    where
      left : (most : ℕ) → most ≡ most - 0
      left most = omega arith

  more : (k i : ℕ) (dot : Float) (s : State) → run (matrix w h from to) limit (suc k) i dot s
      ≡ after (iteration_of (matrix w h from to) limit dot s).result (iteration_of (matrix w h from to) limit dot s).state (suc i) (run (matrix w h from to) limit k (suc i))
  unfolding run
  more k i dot s = refl

  module _ (ok : SolverRoom (length w) h l) (i : ℕ) (less : i < most) {w₁ w₂ : List Float} {dot : Float} (a : RunAt w₁ i dot)
      {t : Result (Option Float) Reason} (e : Ended w₁ w₂ h.size l (iteration_of (matrix w₁ h from to) limit dot (read w₁ h.size l)) t) where
    abbrev before : State
    before = read w₁ h.size l

    abbrev then : State
    then = (iteration_of (matrix w h from to) limit dot before).state

    same-matrix : matrix w₁ h from to ≡ matrix w h from to
    same-matrix = ap (λ v. matrix v h from to) a.frame ∙ get-matrix w h l ok before (read-sized w₁ h.size l) from to

    then-sized : Sized h.size then
    then-sized = iteration-sized h.size (matrix w h from to) limit dot before (read-sized w₁ h.size l)

    result-is : t ≡ (iteration_of (matrix w h from to) limit dot before).result
    result-is = e.result ∙ ap (λ m. (iteration_of m limit dot before).result) same-matrix

    work-is : w₂ ≡ lay w h.size l then
    work-is =
        lay-then w h.size l ok.vector-room before (read-sized w₁ h.size l) then then-sized a.frame
        (e.work ∙ ap (λ m. lay w₁ h.size l (iteration_of m limit dot before).state) same-matrix)

    read_is : read w₂ h.size l ≡ then
    read_is = ap (λ v. read v h.size l) work-is ∙ get-all w h.size l ok.vector-room then then-sized

    left : (most i : ℕ) → i < most → most - i ≡ suc (most - (i + 1))
    left most i h = omega arith

    whole_is : whole ≡ after t then (suc i) (run (matrix w h from to) limit (most - (i + 1)) (suc i))
    whole_is =
        a.same ∙ ap (λ k. run (matrix w h from to) limit k i dot before) (left most i less) ∙ more (most - (i + 1)) i dot before
        ∙ ap (λ u. after u then (suc i) (run (matrix w h from to) limit (most - (i + 1)) (suc i))) (sym result-is)

    pub run-again : {next : Float} → t ≡ Ok (Some next) → RunAt w₂ (i + 1) next
    run-again {next} g = record {
      frame = work-is ∙ ap (lay w h.size l) (sym read_is);
      same =
          whole_is ∙ after-going next then (suc i) (run (matrix w h from to) limit (most - (i + 1)) (suc i)) g
          ∙ ap (λ s. run (matrix w h from to) limit (most - (i + 1)) (suc i) next s) (sym read_is)
          ∙ ap (λ j. run (matrix w h from to) limit (most - (i + 1)) j next (read w₂ h.size l)) (sym (add-one i));
    }

    ended-with : {r : Result ℕ Reason} → whole ≡ record { answer = r; state = then } → Solved w w₂ h.size l whole r
    ended-with o = record { work = work-is ∙ ap (λ (q : Outcome). lay w h.size l q.state) (sym o); result = ap (λ (q : Outcome). q.answer) (sym o) }

    pub run-converged : t ≡ Ok None → Solved w w₂ h.size l whole (Ok (i + 1))
    run-converged g = rw add-one (ended-with (whole_is ∙ after-converged then (suc i) (run (matrix w h from to) limit (most - (i + 1)) (suc i)) g))

    pub run-gave : {r : Reason} → t ≡ Err r → Solved w w₂ h.size l whole (Err r)
    run-gave g = ended-with (whole_is ∙ after-gave then (suc i) (run (matrix w h from to) limit (most - (i + 1)) (suc i)) g)

  pub run-done : {w₁ : List Float} {i : ℕ} {dot : Float} → i ≤ most → most ≤ i → RunAt w₁ i dot → Solved w w₁ h.size l whole (Err CountSpent)
  unfolding run
  run-done {w₁} {i} {dot} g k a =
      let z : most - i ≡ 0 = omega arith in
      let o : whole ≡ record { answer = Err CountSpent; state = read w₁ h.size l } =
      a.same ∙ ap (λ k. run (matrix w h from to) limit k i dot (read w₁ h.size l)) z in
      record {
        work = a.frame ∙ ap (λ (q : Outcome). lay w h.size l q.state) (sym o);
        result = ap (λ (q : Outcome). q.answer) (sym o);
      }

-- ---- the whole method

after-sized : (n : ℕ) (t : Result (Option Float) Reason) (s : State) (count : ℕ) (f : Float → State → Outcome) → Sized n s → ((dot : Float) (s : State) → Sized n s → Sized n (f dot s).state)
    → Sized n (after t s count f).state
unfolding after
after-sized n (Ok None) s count f z g = z
after-sized n (Ok (Some dot)) s count f z g = g dot s z
after-sized n (Err r) s count f z g = z

pub run-sized : (n : ℕ) (m : Matrix) (limit : Float) (k i : ℕ) (dot : Float) (s : State) → Sized n s → Sized n (run m limit k i dot s).state
unfolding run
run-sized n m limit zero i dot s z = z
run-sized n m limit (suc k) i dot s z =
    after-sized n _ _ (suc i) (run m limit k (suc i)) (iteration-sized n m limit dot s z) (λ d t y. run-sized n m limit k (suc i) d t y)

module _ (w : List Float) (h : Hermitian) (l : Vectors) (from to : List ℕ) (tolerance : Float) (most : ℕ)
    {nm : Float} (en : nm ≡ vector_norm (region_c w l.residual h.size)) {b : Bool} (eb : b ≡ not_positive nm) where
  abbrev pub answer : Outcome
  answer = solved (matrix w h from to) tolerance most (read w h.size l)

  norm-not-positive : not_positive (vector_norm (region_c w l.residual h.size)) ≡ b
  norm-not-positive = ap (λ x. not_positive x) (sym en) ∙ sym eb

  pub solve-norm : b ≡ true → Solved w w h.size l answer (Err RightHandNorm)
  unfolding solved read
  solve-norm t =
      let q : not_positive (vector_norm (region_c w l.residual h.size)) ≡ true = norm-not-positive ∙ t in
      rw q (record { work = lay-read w h.size l; result = refl })

  module _ (t : b ≡ false) {v : Option ℕ} (ev : v ≡ first_not_positive (region nan w h.diagonal h.size)) where
    fit : not_positive (vector_norm (region_c w l.residual h.size)) ≡ false
    fit = norm-not-positive ∙ t

    length-diagonal : length (region nan w h.diagonal h.size) ≡ h.size
    length-diagonal = length-region nan w h.diagonal h.size

    pub solve-diagonal : {i : ℕ} → v ≡ Some i → Solved w w h.size l answer (Err (Diagonal i))
    unfolding solved read matrix
    solve-diagonal {i} g =
        let q : first_not_positive (region nan w h.diagonal h.size) ≡ Some i = sym ev ∙ g in
        rw (fit, q) (record { work = lay-read w h.size l; result = refl })

    module _ (ok : SolverRoom (length w) h l) (g : v ≡ None) {w₁ : List Float} {f : Float} (s : Begun w w₁ h l f) {c : Bool} (ec : c ≡ not_positive f) where
      abbrev vectors : State
      vectors = begun (region nan w h.diagonal h.size) (read w h.size l)

      abbrev limit : Float
      limit = tolerance ⊗ vector_norm (region_c w l.residual h.size)

      -- both tests of the right-hand side passed
      answer-is : answer ≡ started (matrix w h from to) limit most vectors
      unfolding solved read matrix
      answer-is =
          let q : first_not_positive (region nan w h.diagonal h.size) ≡ None = sym ev ∙ g in
          rw (fit, q)

      dot-not-positive : not_positive (residual_dot vectors) ≡ c
      dot-not-positive = ap (λ x. not_positive x) (sym s.result) ∙ sym ec

      pub solve-first : c ≡ true → Solved w w₁ h.size l answer (Err FirstResidual)
      unfolding started
      solve-first u =
          let q : not_positive (residual_dot vectors) ≡ true = dot-not-positive ∙ u in
          rw (answer-is, q) (record { work = s.work; result = refl })

      pub solve-run : c ≡ false → {w₂ : List Float} {a : Result ℕ Reason} → Solved w₁ w₂ h.size l (run (matrix w₁ h from to) (tolerance ⊗ nm) most 0 f (read w₁ h.size l)) a
          → Solved w w₂ h.size l answer a
      unfolding started
      solve-run u {w₂} {a} e =
          let n : ℕ = h.size in
          let z : Sized n vectors = begun_sized n (region nan w h.diagonal n) (read w n l) length-diagonal (read-sized w n l) in
          let m : Matrix = matrix w h from to in
          let o : Outcome = run m limit most 0 (residual_dot vectors) vectors in
          let q : not_positive (residual_dot vectors) ≡ false = dot-not-positive ∙ u in
          let k : run (matrix w₁ h from to) (tolerance ⊗ nm) most 0 f (read w₁ n l) ≡ o =
          rw (en, s.result, s.work, get-matrix w h l ok vectors z from to, get-all w n l ok.vector-room vectors z) in
          rw (answer-is, q) (record {
            work = lay-then w n l ok.vector-room vectors z o.state (run-sized n m limit most 0 (residual_dot vectors) vectors z) s.work
                (e.work ∙ ap (λ (x : Outcome). lay w₁ n l x.state) k);
            result = e.result ∙ ap (λ (x : Outcome). x.answer) k;
          })
