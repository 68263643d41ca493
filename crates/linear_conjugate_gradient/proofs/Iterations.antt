-- From the loops to an iteration of the method: what each function makes of the vectors. Assumes nothing.
use mathlib.Core.Path.{◌≡◌, refl, sym, ap, ◌∙◌}
use mathlib.Core.Bool.{Bool, true, false, cond}
use mathlib.Core.List.{List}
use Prim.Native.Nat.{ℕ, ◌*◌}
use lib.Ieee.{Float, nan, le}
use lib.ListN.{length, replicate, length-replicate}
use Rattle.float.specs.Double.{lit, max_of, not_positive, ◌⊘◌}
use Rattle.root.specs.Root.{root_of}
use Rattle.complex.specs.Complex.{czero}
use Rattle.linear_cells.specs.Region.{region, put}
use Rattle.linear_cells.specs.Cell.{region_c, put_c}
use Rattle.linear_cells.proofs.Regions.{length-region}
use Rattle.linear_cells.proofs.Changes.{zeros as vector-zeros}
use Rattle.linear_hermitian.specs.declared.Hermitian.{Hermitian}
use Rattle.linear_hermitian.specs.Hermitian.{Matrix, dot_of, vector_norm, scaled}
use Rattle.linear_hermitian.specs.Work.{matrix}
use Rattle.linear_hermitian.proofs.Product.{length-applied, length-scaled}
use Rattle.linear_conjugate_gradient.specs.declared.Vectors.{Vectors}
use Rattle.linear_vectors.specs.declared.residual.Sums.{Sums}
use Rattle.linear_packing.specs.declared.Packing.{Packing}
use Rattle.linear_packing.specs.Packed.{Packed}
use Rattle.linear_pairs.specs.Product.{Multiplies}
use Rattle.linear_cells.proofs.Cells.{region_c-same}
use Rattle.linear_vectors.specs.Vectors.{recips_of}
use Rattle.std.specs.Prelude.{Option, Some, None, Result, Ok, Err}
use Rattle.linear_conjugate_gradient.specs.declared.Reason.{Reason}
use Rattle.linear_conjugate_gradient.specs.declared.Reason.TheVariants.{Denominator, LostDefiniteness}
use Rattle.linear_conjugate_gradient.specs.Solve.{State, Iteration, begun, residual_dot, preconditioned, multiplied, denominator, reduced, advanced, directed, judged, stepped, iteration_of}
use Rattle.linear_conjugate_gradient.specs.Work.{read, lay, VectorRoom, SolverRoom, Engine, Begun, Multiplied, Updated, Ended}
use Rattle.linear_vectors.proofs.Inverses.{length-recips_of}
use Rattle.linear_conjugate_gradient.proofs.Lays.{Sized, read-sized, lay-read, get-r, get-p, get-inverse, get-all, put-x, put-p, put-q, put-inverse, lay-then, get-below, get-matrix}
use Rattle.linear_conjugate_gradient.proofs.Passes.{reduced-sized, advanced-sized, directed-sized}

-- ---- begin

pub begun_sized : (n : ℕ) (d : List Float) (s : State) → length d ≡ n → Sized n s → Sized n (begun d s)
unfolding begun
begun_sized n d s h z = record {
  x-n = length-replicate (length s.r) czero ∙ z.r-n;
  r-n = z.r-n;
  p-n = rw length-scaled z.r-n;
  q-n = z.q-n;
  inverse-n = rw length-recips_of h;
}

pub begin-all : (w : List Float) (h : Hermitian) (l : Vectors) → SolverRoom (length w) h l → {w₁ w₂ w₃ : List Float} {r : Float}
    → w₁ ≡ put w l.inverse (recips_of (region nan w h.diagonal h.size))
    → w₂ ≡ put w₁ l.x (replicate (2 * h.size) (lit 0))
    → w₃ ≡ put_c w₂ l.direction (scaled (region nan w₂ l.inverse h.size) (region_c w₂ l.residual h.size))
    → r ≡ (dot_of (region_c w₃ l.direction h.size) (region_c w₃ l.residual h.size)).re
    → Begun w w₃ h l r
unfolding begun residual_dot preconditioned read
begin-all w h l ok {w₁} {w₂} {w₃} {r} e₁ e₂ e₃ er =
    let n : ℕ = h.size in
    let vr : VectorRoom (length w) n l = ok.vector-room in
    let s : State = read w n l in
    let z : Sized n s = read-sized w n l in
    let d : List Float = region nan w h.diagonal n in
    let t : State = begun d s in
    let y : Sized n t = begun_sized n d s (length-region nan w h.diagonal n) z in
    let s₁ : State = record { x = s.x; r = s.r; p = s.p; q = s.q; inverse = t.inverse } in
    let z₁ : Sized n s₁ = record { x-n = z.x-n; r-n = z.r-n; p-n = z.p-n; q-n = z.q-n; inverse-n = y.inverse-n } in
    let s₂ : State = record { x = t.x; r = s.r; p = s.p; q = s.q; inverse = t.inverse } in
    let z₂ : Sized n s₂ = record { x-n = y.x-n; r-n = z.r-n; p-n = z.p-n; q-n = z.q-n; inverse-n = y.inverse-n } in
    let f₁ : w₁ ≡ lay w n l s₁ = e₁ ∙ ap (λ u. put u l.inverse t.inverse) (lay-read w n l) ∙ put-inverse w n l vr s z t.inverse y.inverse-n in
    let zeros : replicate n czero ≡ t.x = ap (λ k. replicate k czero) (sym z.r-n) in
    let f₂ : w₂ ≡ lay w n l s₂ = vector-zeros w₁ l.x n e₂ ∙ rw (f₁, zeros) (put-x w n l vr s₁ z₁ t.x y.x-n) in
    let f₃ : w₃ ≡ lay w n l t = e₃ ∙ rw (f₂, get-inverse w n l vr s₂ z₂, get-r w n l vr s₂ z₂) (put-p w n l vr s₂ z₂ t.p y.p-n) in
    record { work = f₃; result = er ∙ rw (f₃, get-p w n l vr t y, get-r w n l vr t y) }

-- ---- multiply

pub multiplied-sized : (n : ℕ) (m : Matrix) (s : State) → Sized n s → Sized n (multiplied m s)
unfolding multiplied
multiplied-sized n m s z = record { x-n = z.x-n; r-n = z.r-n; p-n = z.p-n; q-n = rw length-applied z.p-n; inverse-n = z.inverse-n }

-- ---- an iteration after its product

module _ (w : List Float) (n : ℕ) (l : Vectors) (alpha dot limit : Float) (ok : VectorRoom (length w) n l) where
  abbrev pub now : State
  now = advanced alpha (reduced alpha (read w n l))

  -- the vectors after both parts of the step, and what the sums say of them
  advanced-now : {w₁ w₂ : List Float} → w₁ ≡ lay w n l (reduced alpha (read w n l)) → w₂ ≡ lay w₁ n l (advanced alpha (read w₁ n l)) → w₂ ≡ lay w n l now
  advanced-now {w₁} {w₂} e₁ e₂ =
      let s : State = reduced alpha (read w n l) in
      let z : Sized n s = reduced-sized n alpha (read w n l) (read-sized w n l) in
      lay-then w n l ok s z now (advanced-sized n alpha s z) e₁ (e₂ ∙ rw (e₁, get-all w n l ok s z))

  norm-now : {w₁ : List Float} {sums : Sums} {r : Float} → Updated w w₁ n l alpha sums → r ≡ root_of (max_of sums.square (lit 0)) → r ≡ vector_norm now.r
  unfolding vector_norm advanced
  norm-now u e = e ∙ rw u.square

  next-now : {w₁ : List Float} {sums : Sums} → Updated w w₁ n l alpha sums → sums.next ≡ residual_dot now
  unfolding residual_dot advanced preconditioned
  next-now u = u.next

  pub step-converged : {w₁ w₂ : List Float} {sums : Sums} {r : Float} → Updated w w₁ n l alpha sums → r ≡ root_of (max_of sums.square (lit 0)) → le r limit ≡ true
      → w₂ ≡ lay w₁ n l (advanced alpha (read w₁ n l)) → Ended w w₂ n l (judged limit dot now) (Ok None)
  unfolding judged
  step-converged u er t e₂ =
      let q : le (vector_norm now.r) limit ≡ true = rw (norm-now u er) at t in
      rw q (record { work = advanced-now u.work e₂; result = refl })

  pub step-lost : {w₁ w₂ : List Float} {sums : Sums} {r : Float} {b : Bool} → Updated w w₁ n l alpha sums → r ≡ root_of (max_of sums.square (lit 0)) → le r limit ≡ false
      → b ≡ not_positive sums.next → b ≡ true → w₂ ≡ lay w₁ n l (advanced alpha (read w₁ n l)) → Ended w w₂ n l (judged limit dot now) (Err LostDefiniteness)
  unfolding judged
  step-lost u er t eb tb e₂ =
      let q : le (vector_norm now.r) limit ≡ false = rw (norm-now u er) at t in
      let v : not_positive (residual_dot now) ≡ true = ap (λ x. not_positive x) (sym (next-now u)) ∙ sym eb ∙ tb in
      rw (q, v) (record { work = advanced-now u.work e₂; result = refl })

  pub step-going : {w₁ w₂ : List Float} {sums : Sums} {r : Float} {b : Bool} → Updated w w₁ n l alpha sums → r ≡ root_of (max_of sums.square (lit 0)) → le r limit ≡ false
      → b ≡ not_positive sums.next → b ≡ false → w₂ ≡ lay w₁ n l (directed (sums.next ⊘ dot) (advanced alpha (read w₁ n l))) → Ended w w₂ n l (judged limit dot now) (Ok (Some sums.next))
  unfolding judged
  step-going {w₁} {w₂} {sums} u er t eb tb e₂ =
      let q : le (vector_norm now.r) limit ≡ false = rw (norm-now u er) at t in
      let v : not_positive (residual_dot now) ≡ false = ap (λ x. not_positive x) (sym (next-now u)) ∙ sym eb ∙ tb in
      let s : State = reduced alpha (read w n l) in
      let z : Sized n s = reduced-sized n alpha (read w n l) (read-sized w n l) in
      let beta : Float = residual_dot now ⊘ dot in
      let f : w₂ ≡ lay w n l (directed beta now) =
      lay-then w n l ok s z (directed beta now) (directed-sized n beta now (advanced-sized n alpha s z)) u.work
      (e₂ ∙ rw (next-now u, u.work, get-all w n l ok s z)) in
      rw (q, v) (record { work = f; result = ap (λ (x : Float). Ok (Some x)) (next-now u) })

-- ---- an iteration

picked-sized : (n : ℕ) (b : Bool) (s t : Iteration) → Sized n s.state → Sized n t.state → Sized n (cond b s t).state
picked-sized n true s t y z = y
picked-sized n false s t y z = z

judged-sized : (n : ℕ) (limit dot : Float) (s : State) → Sized n s → Sized n (judged limit dot s).state
unfolding judged
judged-sized n limit dot s z =
    picked-sized n (le (vector_norm s.r) limit) _ _ z (picked-sized n (not_positive (residual_dot s)) _ _ z (directed-sized n (residual_dot s ⊘ dot) s z))

pub iteration-sized : (n : ℕ) (m : Matrix) (limit dot : Float) (s : State) → Sized n s → Sized n (iteration_of m limit dot s).state
unfolding iteration_of stepped
iteration-sized n m limit dot s z =
    let t : State = multiplied m s in
    let y : Sized n t = multiplied-sized n m s z in
    let a : Float = dot ⊘ denominator t in
    picked-sized n (not_positive (denominator t)) _ _ y (judged-sized n limit dot (advanced a (reduced a t)) (advanced-sized n a (reduced a t) (reduced-sized n a t y)))

module _ (w : List Float) (h : Hermitian) (l : Vectors) (from to : List ℕ) (limit dot : Float) where
  pub iteration-broken : {w₁ : List Float} {d : Float} {b : Bool} → Multiplied w w₁ h l from to d → b ≡ not_positive d → b ≡ true
      → Ended w w₁ h.size l (iteration_of (matrix w h from to) limit dot (read w h.size l)) (Err Denominator)
  unfolding iteration_of stepped
  iteration-broken p eb tb =
      let v : not_positive (denominator (multiplied (matrix w h from to) (read w h.size l))) ≡ true = ap (λ x. not_positive x) (sym p.result) ∙ sym eb ∙ tb in
      rw v (record { work = p.work; result = refl })

  pub iteration-stepped : SolverRoom (length w) h l → {w₁ w₂ : List Float} {d : Float} {b : Bool} {t : Result (Option Float) Reason} → Multiplied w w₁ h l from to d → b ≡ not_positive d → b ≡ false
      → Ended w₁ w₂ h.size l (judged limit dot (advanced (dot ⊘ d) (reduced (dot ⊘ d) (read w₁ h.size l)))) t
      → Ended w w₂ h.size l (iteration_of (matrix w h from to) limit dot (read w h.size l)) t
  unfolding iteration_of stepped
  iteration-stepped ok {w₁} {w₂} {d} p eb tb e =
      let n : ℕ = h.size in
      let m : Matrix = matrix w h from to in
      let s : State = multiplied m (read w n l) in
      let z : Sized n s = multiplied-sized n m (read w n l) (read-sized w n l) in
      let a : Float = dot ⊘ denominator s in
      let v : not_positive (denominator s) ≡ false = ap (λ x. not_positive x) (sym p.result) ∙ sym eb ∙ tb in
      let k : judged limit dot (advanced (dot ⊘ d) (reduced (dot ⊘ d) (read w₁ n l))) ≡ judged limit dot (advanced a (reduced a s)) =
      rw (p.result, p.work, get-all w n l ok.vector-room s z) in
      let y : Sized n (judged limit dot (advanced a (reduced a s))).state = judged-sized n limit dot (advanced a (reduced a s)) (advanced-sized n a (reduced a s) (reduced-sized n a s z)) in
      rw v (record {
        work = lay-then w n l ok.vector-room s z _ y p.work (e.work ∙ rw k);
        result = e.result ∙ rw k;
      })

-- ---- the engine

-- the product and its inner product, in one pass
pub multiply-engine : (w : List Float) (h : Hermitian) (l : Vectors) (from to : List ℕ) → SolverRoom (length w) h l → {w₁ : List Float} {r : Float}
    → Multiplies w w₁ (matrix w h from to) (region_c w l.direction h.size) l.applied r → Multiplied w w₁ h l from to r
unfolding multiplied denominator read
multiply-engine w h l from to ok {w₁} {r} e =
    let n : ℕ = h.size in
    let m : Matrix = matrix w h from to in
    let s : State = read w n l in
    let z : Sized n s = read-sized w n l in
    let t : State = multiplied m s in
    let y : Sized n t = multiplied-sized n m s z in
    record { work = e.work ∙ ap (λ u. put_c u l.applied t.q) (lay-read w n l) ∙ put-q w n l ok.vector-room s z t.q y.q-n; result = e.dot }

-- a change of the vectors leaves the copy
pub engine-still : (w : List Float) (h : Hermitian) (l : Vectors) (from to u : List ℕ) (t : Packing) → SolverRoom (length w) h l → Engine w h l from to u t
    → (s : State) → Sized h.size s → {w₁ : List Float} → w₁ ≡ lay w h.size l s → Engine w₁ h l from to u t
engine-still w h l from to u t ok g s z {w₁} e =
    let n : ℕ = h.size in
    let m : matrix w₁ h from to ≡ matrix w h from to = ap (λ v. matrix v h from to) e ∙ get-matrix w h l ok s z from to in
    let o : region_c w₁ t.entries t.slots ≡ region_c w t.entries t.slots =
    ap (λ v. region_c v t.entries t.slots) e
    ∙ region_c-same (lay w n l s) w t.entries t.slots (get-below w n l ok.vector-room s z t.entries (2 * t.slots) g.room.entries_below) in
    let k : Packed (matrix w h from to) w u t = g.packed in
    record { room = g.room; packed = rw m (record { all = k.all; starts = k.starts; neighbours = k.neighbours; marks = k.marks; entries = o ∙ k.entries }) }
