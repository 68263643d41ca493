-- What `solve` and `normalize` leave and answer, from the contracts of the functions that they call. Assumes nothing.
use mathlib.Core.Path.{◌≡◌, refl, sym, ap, ◌∙◌}
use mathlib.Core.Bool.{Bool, true, false, cond}
use mathlib.Core.List.{List}
use Prim.Native.Nat.{ℕ}
use native.Mathlib.Omega.{arith}
use lib.Ieee.{Float, nan}
use lib.ListN.{length}
use Rattle.float.specs.Double.{recip_of, not_positive}
use Rattle.root.specs.Root.{root_of}
use Rattle.complex.specs.declared.Complex.{Complex}
use Rattle.linear_cells.specs.Cell.{region_c, put_c}
use Rattle.linear_cells.proofs.Regions.{length-region}
use Rattle.linear_hermitian.specs.declared.Hermitian.{Hermitian}
use Rattle.linear_hermitian.specs.Hermitian.{Matrix, applied}
use Rattle.linear_hermitian.specs.Work.{matrix}
use Rattle.linear_hermitian.proofs.Product.{length-applied}
use Rattle.linear_cells.proofs.Loops.{length-tab}
use Rattle.linear_vectors.specs.Vectors.{scaled_by}
use Rattle.linear_conjugate_gradient.specs.declared.Vectors.{Vectors}
use Rattle.linear_conjugate_gradient.specs.declared.Reason.{Reason}
use Rattle.linear_conjugate_gradient.specs.declared.Reason.TheVariants.{MassOfIterate}
use Rattle.std.specs.Prelude.{Result, Ok, Err}
use Rattle.linear_conjugate_gradient.specs.Answer.{reason, place}
use Rattle.linear_conjugate_gradient.specs.Method.{mass_squared, normalized_of}
use Rattle.linear_conjugate_gradient.specs.Solve.{State, Outcome, solved, normalized_answer, normalized_vector}
use Rattle.linear_conjugate_gradient.specs.Work.{read, lay, VectorRoom, SolverRoom, Solved, InMass}
use Rattle.linear_conjugate_gradient.proofs.Lays.{Sized, read-sized, lay-read, get-x, get-all, put-x, put-p}
use Rattle.linear_conjugate_gradient.proofs.Method.{answered, answered-held, solved-method, solved-sized}
use Rattle.linear_conjugate_gradient.specs.Found.{vector, gave}
use Rattle.pass_solution.specs.Solution.{inner_tolerance, solution_of}
use Rattle.pass_solution.specs.Work.{refusal_of, found_stage, Framed, Solves, normalized_left, Normalizes}
use Rattle.refusals.specs.Refusal.{Verdict}

-- ---- nothing but the solver's vectors is written

-- the vectors that a slice was laid with
pub left_in : (w : List Float) (n : ℕ) (l : Vectors) → VectorRoom (length w) n l → (s : State) → Sized n s → {w₁ : List Float} → w₁ ≡ lay w n l s → read w₁ n l ≡ s
left_in w n l ok s z e = ap (λ v. read v n l) e ∙ get-all w n l ok s z

pub framed : (w : List Float) (n : ℕ) (l : Vectors) → VectorRoom (length w) n l → (s : State) → Sized n s → {w₁ : List Float} → w₁ ≡ lay w n l s → Framed w w₁ n l
framed w n l ok s z e = e ∙ ap (lay w n l) (sym (left_in w n l ok s z e))

-- ---- solve

module _ (w : List Float) (h : Hermitian) (l : Vectors) (from to : List ℕ) (most : ℕ) (ok : SolverRoom (length w) h l) {w₁ : List Float} {a : Result ℕ Reason}
    (s : Solved w w₁ h.size l (solved (matrix w h from to) inner_tolerance most (read w h.size l)) a) where
  abbrev out : Outcome
  out = solved (matrix w h from to) inner_tolerance most (read w h.size l)

  out-sized : Sized h.size out.state
  unfolding matrix
  out-sized =
      solved-sized h.size (matrix w h from to) inner_tolerance most (read w h.size l) (length-region nan w h.diagonal h.size) (read-sized w h.size l)

  x-is : region_c w₁ l.x h.size ≡ out.state.x
  x-is = ap (λ v. region_c v l.x h.size) s.work ∙ get-x w h.size l ok.vector-room out.state out-sized

  found-is : solution_of (matrix w h from to) most (region_c w l.residual h.size) ≡ answered a (region_c w₁ l.x h.size)
  unfolding solution_of read
  found-is = sym (solved-method (matrix w h from to) inner_tolerance most (read w h.size l)) ∙ rw (← s.result, ← x-is)

  solves : {r : Verdict} → r ≡ found_stage (answered a (region_c w₁ l.x h.size)) → Solves w w₁ h l from to most r
  solves e = record {
    frame = framed w h.size l ok.vector-room out.state out-sized s.work;
    left = left_in w h.size l ok.vector-room out.state out-sized s.work;
    stage = e ∙ ap found_stage (sym found-is);
    held = λ v q. answered-held a (region_c w₁ l.x h.size) v (sym found-is ∙ q);
  }

  pub solve-done : {count : ℕ} → a ≡ Ok count → Solves w w₁ h l from to most (Ok tt)
  unfolding found_stage answered
  solve-done e = solves (rw e)

  pub solve-gave : {r : Reason} {t : Verdict} → a ≡ Err r → t ≡ Err (refusal_of r) → Solves w w₁ h l from to most t
  unfolding found_stage answered
  solve-gave e f = solves (f ∙ rw e)

-- ---- normalize

normal-held : (b : Bool) (x u v : List Complex) → cond b (gave 9 0) (vector u) ≡ vector v → cond b x u ≡ v
normal-held true x u v e = let z : ◌≡◌ {A = ℕ} 0 1 = cc in absurd (omega arith)
normal-held false x u v e = cc

normal-done : (b : Bool) (u : List Complex) → ◌≡◌ {A = Result (Unit {0}) Reason} (Ok tt) (cond b (Err MassOfIterate) (Ok tt)) → ◌≡◌ {A = Verdict} (Ok tt) (found_stage (cond b (gave 9 0) (vector u)))
unfolding found_stage
normal-done true u e = let z : ◌≡◌ {A = ℕ} 0 1 = cc in absurd (omega arith)
normal-done false u e = refl

normal-gave : (b : Bool) (u : List Complex) (r : Reason) → ◌≡◌ {A = Result (Unit {0}) Reason} (Err r) (cond b (Err MassOfIterate) (Ok tt))
    → Err (refusal_of r) ≡ found_stage (cond b (gave 9 0) (vector u))
unfolding found_stage reason place
normal-gave true u r e = let q : r ≡ MassOfIterate = cc in rw q
normal-gave false u r e = let z : ◌≡◌ {A = ℕ} 0 1 = cc in absurd (omega arith)

module _ (w : List Float) (mass : Hermitian) (l : Vectors) (from to : List ℕ) (ok : SolverRoom (length w) mass l) {w₁ : List Float} {a : Result (Unit {0}) Reason}
    (s : InMass w w₁ l.x l.direction mass.size (matrix w mass from to) a) where
  abbrev n : ℕ
  n = mass.size

  abbrev x : List Complex
  x = region_c w l.x n

  abbrev m : Matrix
  m = matrix w mass from to

  abbrev squared : Float
  squared = mass_squared m x

  abbrev first : State
  first = read w n l

  -- the vectors after the product, and at the end
  abbrev second : State
  second = record { x = first.x; r = first.r; p = applied m x; q = first.q; inverse = first.inverse }

  abbrev third : State
  third = record { x = normalized_vector squared x; r = first.r; p = applied m x; q = first.q; inverse = first.inverse }

  length-normal : (b : Bool) (v : List Complex) (k : Float) → length (cond b v (scaled_by k v)) ≡ length v
  unfolding scaled_by
  length-normal true v k = refl
  length-normal false v k = length-tab _ (length v)

  length-third : length third.x ≡ n
  unfolding normalized_vector
  length-third = length-normal (not_positive squared) x (recip_of (root_of squared)) ∙ read-x
    where
      read-x : length x ≡ n
      read-x = unfold read in (read-sized w n l).x-n

  second-sized : Sized n second
  unfolding read
  second-sized =
      let z : Sized n first = read-sized w n l in
      record { x-n = z.x-n; r-n = z.r-n; p-n = length-applied m x ∙ z.x-n; q-n = z.q-n; inverse-n = z.inverse-n }

  third-sized : Sized n third
  third-sized =
      let z : Sized n second = second-sized in
      record { x-n = length-third; r-n = z.r-n; p-n = z.p-n; q-n = z.q-n; inverse-n = z.inverse-n }

  laid-third : w₁ ≡ lay w n l third
  laid-third =
      let f : put_c w l.direction (applied m x) ≡ lay w n l second =
      ap (λ v. put_c v l.direction (applied m x)) (lay-read w n l) ∙ put-p w n l ok.vector-room first (read-sized w n l) (applied m x) second-sized.p-n in
      s.work ∙ rw f (put-x w n l ok.vector-room second second-sized third.x length-third)

  normal-x : region_c w₁ l.x n ≡ normalized_vector squared x
  normal-x = ap (λ v. region_c v l.x n) laid-third ∙ get-x w n l ok.vector-room third third-sized

  normalizes : {r : Verdict} → r ≡ found_stage (normalized_of m x) → Normalizes w w₁ mass l from to r
  normalizes e = record {
    frame = framed w n l ok.vector-room third third-sized laid-third;
    left = left_in w n l ok.vector-room third third-sized laid-third ∙ (unfold normalized_left read in refl);
    stage = e;
    held = held;
  }
    where
      held : (v : List Complex) → normalized_of m x ≡ vector v → region_c w₁ l.x n ≡ v
      held v q = normal-x ∙ (unfold normalized_vector in normal-held (not_positive squared) x (scaled_by (recip_of (root_of squared)) x) v (unfold normalized_of in q))

  pub normalize-done : a ≡ Ok tt → Normalizes w w₁ mass l from to (Ok tt)
  unfolding normalized_of normalized_answer
  normalize-done e = normalizes (normal-done (not_positive squared) _ (sym e ∙ s.result))

  pub normalize-gave : {r : Reason} {t : Verdict} → a ≡ Err r → t ≡ Err (refusal_of r) → Normalizes w w₁ mass l from to t
  unfolding normalized_of normalized_answer
  normalize-gave {r} e f = normalizes (f ∙ normal-gave (not_positive squared) _ r (sym e ∙ s.result))
