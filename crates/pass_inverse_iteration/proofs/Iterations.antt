-- The next iterate, one iteration, the loop, and the whole method. Assumes nothing.
use mathlib.Core.Path.{◌≡◌, refl, sym, ap, subst, ◌∙◌}
use mathlib.Core.Bool.{Bool, true, false, not, cond}
use mathlib.Core.List.{List}
use Prim.Native.Nat.{ℕ, suc, ◌+◌, ◌-◌, ◌≤◌, ◌<◌}
use native.Mathlib.Omega.{arith}
use lib.Ieee.{Float, nan, le}
use lib.ListN.{length}
use Rattle.std.specs.Prelude.{Ok, Err}
use Rattle.float.specs.Double.{is_finite, not_positive}
use Rattle.complex.specs.declared.Complex.{Complex}
use Rattle.linear_cells.specs.Region.{region}
use Rattle.linear_cells.specs.Cell.{region_c, put_c}
use Rattle.linear_cells.proofs.Loops.{length-tab}
use Rattle.linear_cells.proofs.Regions.{length-region}
use Rattle.linear_hermitian.specs.declared.Hermitian.{Hermitian}
use Rattle.linear_hermitian.specs.Hermitian.{Matrix, applied}
use Rattle.linear_hermitian.specs.Work.{matrix}
use Rattle.linear_hermitian.proofs.Product.{length-applied}
use Rattle.linear_conjugate_gradient.specs.declared.Vectors.{Vectors}
use Rattle.linear_conjugate_gradient.specs.Solve.{State}
use Rattle.linear_packing.specs.declared.Packing.{Packing}
use Rattle.linear_conjugate_gradient.specs.Work.{read, lay, VectorRoom, SolverRoom, Engine}
use Rattle.linear_conjugate_gradient.proofs.Iterations.{engine-still}
use Rattle.linear_conjugate_gradient.proofs.Lays.{Sized, read-sized, lay-read, get-x, get-r, put-x, put-r}
use Rattle.refusals.specs.Refusal.{gave_up, Verdict}
use Rattle.pass_inverse_iteration.specs.Start.{ramped_by, start_of}
use Rattle.linear_conjugate_gradient.specs.Found.{Found, vector, gave}
use Rattle.linear_conjugate_gradient.specs.Method.{mass_squared, normalized_of}
use Rattle.pass_solution.specs.Solution.{onward, solution_of, inner_most}
use Rattle.pass_solution.specs.Work.{found_stage, Framed, Answers, left_by, solved_left, Solves, normalized_left, Normalizes}
use Rattle.pass_solution.proofs.Stages.{framed, left_in}
use Rattle.pass_solution.proofs.Chains.{framed-none, framed_then, framed-matrix, found_at, left-gave, ends-first, ends-second, answers-after}
use Rattle.pass_inverse_iteration.specs.declared.Limits.{Limits}
use Rattle.pass_inverse_iteration.specs.declared.Outer.{Outer}
use Rattle.pass_inverse_iteration.specs.declared.PencilPlan.{PencilPlan}
use Rattle.pass_inverse_iteration.specs.Inverse.{Pencil, outer_tolerance, next_of, estimate_of, relative_of, judged_by, iterated, average_of, pencil_of, inverse_of}
use Rattle.pass_inverse_iteration.specs.Memory.{Step, going, ended, outer_judged, judged_from, outer_iteration, outer_after, with_right, next_left, judged_left, iteration_left, after_left, iterated_left, start_left, inverse_left}
use Rattle.pass_inverse_iteration.specs.Work.{PencilRoom, pencil, progress_of, carried, Steps, Judges, IteratesOnce, TakesNext, Iterates, start_in, Starts, Inverts, Progress, ended_as}

-- the mass matrix's own size is the energy's
resized : (w w₁ : List Float) (mass : Hermitian) (l : Vectors) (from to : List ℕ) (n : ℕ) {r : Verdict} → mass.size ≡ n → Normalizes w w₁ mass l from to r
    → Answers w w₁ n l (normalized_left (matrix w mass from to) (read w n l)) (normalized_of (matrix w mass from to) (region_c w l.x n)) r
resized w w₁ mass l from to n {r} e a =
    subst (λ (k : ℕ). Answers w w₁ k l (normalized_left (matrix w mass from to) (read w k l)) (normalized_of (matrix w mass from to) (region_c w l.x k)) r) e a

length-start : (xs ys : List Float) → length (start_of xs ys) ≡ length xs
unfolding start_of ramped_by
length-start xs ys = length-tab _ (length xs)

-- the three tests of a next iterate
tests : (b c d : Bool) (next : List Complex) (f : List Complex → Found) → cond b (gave 10 0) (cond c (gave 11 0) (cond d (vector next) (f next)))
    ≡ outer_after (cond b (ended (gave 10 0)) (cond c (ended (gave 11 0)) (cond d (ended (vector next)) (going next)))) f
unfolding outer_after
tests true c d next f = refl
tests false true d next f = refl
tests false false true next f = refl
tests false false false next f = refl

-- an iteration ends, or leads on, as the definition says
from_next : (p : Pencil) (f : List Complex → Found) (next : Found) → onward next (λ x. judged_by p x f) ≡ outer_after (judged_from next (outer_judged p)) f
unfolding onward judged_by judged_from outer_judged outer_after
from_next p f (vector x) = tests (not_positive (mass_squared p.mass x)) (not (is_finite (estimate_of p x))) (le (relative_of p x) outer_tolerance) x f
from_next p f (gave r i) = refl

step-going : (t : Step) (x : List Complex) → ◌≡◌ {A = Progress} (Ok false) (progress_of t) → ((v : List Complex) → carried t ≡ vector v → x ≡ v) → t ≡ going x
unfolding progress_of carried found_stage
step-going (going v) x e h = ap going (sym (h v refl))
step-going (ended (vector v)) x e h = absurd (cc)
step-going (ended (gave r i)) x e h = absurd (cc)

-- the method ends with this iteration: with its answer, what it carried, and the vectors that it left
pub record EndedBy (i : Step) (f : List Complex → Found) (t : State) (k : State → State) (r : Verdict) : Type 0 where
  pub found : outer_after i f ≡ carried i
  pub left : after_left i t k ≡ t
  pub stage : r ≡ found_stage (carried i)

same-end : (a b : Verdict) → ended_as a ≡ ended_as b → a ≡ b
same-end (Ok _) (Ok _) e = refl
same-end (Ok _) (Err y) e = absurd (cc)
same-end (Err x) (Ok _) e = absurd (cc)
same-end (Err x) (Err y) e = cc

no-end : {A : Type 0} (a : Verdict) → ◌≡◌ {A = Progress} (Ok false) (ended_as a) → A
no-end (Ok _) e = absurd (cc)
no-end (Err x) e = absurd (cc)

step-ended : (i : Step) (f : List Complex → Found) (t : State) (k : State → State) (r : Verdict) {p : Progress} → p ≡ progress_of i → p ≡ ended_as r → EndedBy i f t k r
unfolding progress_of carried outer_after after_left
step-ended (going v) f t k r e h = no-end r (sym e ∙ h)
step-ended (ended g) f t k r e h = record { found = refl; left = refl; stage = same-end r (found_stage g) (sym h ∙ e) }

module _ (plan : PencilPlan) where
  abbrev mass : Hermitian
  mass = plan.mass

  abbrev energy : Hermitian
  energy = plan.energy

  abbrev l : Vectors
  l = plan.vectors

  module _ (w : List Float) (from to : List ℕ) (o : Limits) (ok : PencilRoom (length w) plan) where
    abbrev n : ℕ
    n = energy.size

    abbrev x : List Complex
    x = region_c w l.x n

    abbrev p : Pencil
    p = pencil w plan from to o

    room : VectorRoom (length w) n l
    room = ok.energy-room.vector-room

    pub pencil-stays : {w₁ : List Float} → Framed w w₁ n l → pencil w₁ plan from to o ≡ p
    pencil-stays {w₁} e =
        let m : matrix w₁ mass from to ≡ p.mass = framed-matrix w mass l ok.mass-room n ok.one_size e from to in
        let g : matrix w₁ energy from to ≡ p.energy = framed-matrix w energy l ok.energy-room n refl e from to in
        λ k. record { mass = m k; energy = g k; average = o.average; most = o.most }

    -- ---- next

    module _ {w₁ : List Float} (e₁ : w₁ ≡ put_c w l.residual (applied p.mass (region_c w l.x mass.size))) where
      abbrev rhs : List Complex
      rhs = applied p.mass x

      abbrev ready : State
      ready = with_right p.mass (read w n l)

      ready-sized : Sized n ready
      unfolding with_right read
      ready-sized =
          let z : Sized n (read w n l) = read-sized w n l in
          record { x-n = z.x-n; r-n = length-applied p.mass x ∙ z.x-n; p-n = z.p-n; q-n = z.q-n; inverse-n = z.inverse-n }

      ready-is : w₁ ≡ lay w n l ready
      unfolding with_right read
      ready-is =
          e₁ ∙ ap (λ k. put_c w l.residual (applied p.mass (region_c w l.x k))) ok.one_size
          ∙ ap (λ v. put_c v l.residual rhs) (lay-read w n l) ∙ put-r w n l room (read w n l) (read-sized w n l) rhs ready-sized.r-n

      framed-ready : Framed w w₁ n l
      framed-ready = framed w n l room ready ready-sized ready-is

      rhs-is : region_c w₁ l.residual n ≡ rhs
      rhs-is = ap (λ v. region_c v l.residual n) ready-is ∙ get-r w n l room ready ready-sized ∙ (unfold with_right read in refl)

      pub next-engine : (u : List ℕ) (t : Packing) → Engine w energy l from to u t → Engine w₁ energy l from to u t
      next-engine u t g = engine-still w energy l from to u t ok.energy-room g ready ready-sized ready-is

      module _ {w₂ : List Float} {s : Verdict} (b : Solves w₁ w₂ energy l from to o.most s) where
        pub solved-next : Answers w w₂ n l (solved_left p.energy p.most ready) (solution_of p.energy p.most rhs) s
        solved-next =
            let m : matrix w₁ energy from to ≡ p.energy = framed-matrix w energy l ok.energy-room n refl framed-ready from to in
            answers-after w n l room framed-ready b (rw (m, left_in w n l room ready ready-sized ready-is)) (rw (m, rhs-is))

        pub next-refused : (s ≡ Ok tt → ⊥) → TakesNext w w₂ plan from to o s
        unfolding next_of next_left read
        next-refused h = ends-first w n l (normalized_of p.mass) (normalized_left p.mass) solved-next h

        pub next-normalized : s ≡ Ok tt → {w₃ : List Float} {t : Verdict} → Normalizes w₂ w₃ mass l from to t → TakesNext w w₃ plan from to o t
        unfolding next_of next_left read
        next-normalized d {w₃} c =
            let f : Framed w w₂ n l = solved-next.frame in
            let m : matrix w₂ mass from to ≡ p.mass = framed-matrix w mass l ok.mass-room n ok.one_size f from to in
            ends-second w n l room (normalized_of p.mass) (normalized_left p.mass) solved-next d (rw m at (resized w₂ w₃ mass l from to n ok.one_size c))

    -- ---- an iteration

    judged-gave : (f : Found) (g : List Complex → Step) {s : Verdict} → s ≡ found_stage f → (s ≡ Ok tt → ⊥) → judged_from f g ≡ ended f
    unfolding judged_from found_stage
    judged-gave (vector v) g e h = absurd (h e)
    judged-gave (gave r i) g e h = refl

    module _ {w₁ : List Float} {s : Verdict} (a : TakesNext w w₁ plan from to o s) where
      pub iteration-refused : (s ≡ Ok tt → ⊥) → {t : Progress} → t ≡ ended_as s → IteratesOnce w w₁ plan from to o t
      unfolding outer_iteration iteration_left progress_of carried read
      iteration-refused h e =
          rw (judged-gave (next_of p x) (outer_judged p) a.stage h, left-gave (next_of p x) (next_left p (read w n l)) (judged_left p) a.stage h)
          (record { frame = a.frame; left = a.left; progress = e ∙ ap ended_as a.stage; held = a.held })

      pub iteration-judged : s ≡ Ok tt → {w₂ : List Float} {t : Progress} → Judges w₁ w₂ plan from to o t → IteratesOnce w w₂ plan from to o t
      unfolding outer_iteration iteration_left judged_from left_by read
      iteration-judged d {w₂} {t} b =
          let c : Steps w₁ w₂ n l (judged_left p (read w₁ n l)) (outer_judged p (region_c w₁ l.x n)) t = rw (pencil-stays a.frame) at b in
          rw (found_at w n l a d) (record {
            frame = framed_then w n l room a.frame c.frame;
            left = c.left ∙ ap (judged_left p) a.left;
            progress = c.progress;
            held = c.held;
          })

  -- ---- the loop

  module _ (w : List Float) (from to : List ℕ) (o : Limits) (k : ℕ) where
    abbrev whole : Found
    whole = iterated (pencil w plan from to o) k (region_c w l.x energy.size)

    abbrev whole_left : State
    whole_left = iterated_left (pencil w plan from to o) k (read w energy.size l)

    -- after i iterations the same is found, and left, from here
    pub record Reached (w₁ : List Float) (i : ℕ) : Type 0 where
      pub frame : Framed w w₁ energy.size l
      pub same : whole ≡ iterated (pencil w plan from to o) (k - i) (region_c w₁ l.x energy.size)
      pub left : whole_left ≡ iterated_left (pencil w plan from to o) (k - i) (read w₁ energy.size l)

    pub reach-none : Reached w 0
    reach-none = record {
      frame = framed-none w energy.size l;
      same = ap (λ j. iterated (pencil w plan from to o) j (region_c w l.x energy.size)) (none k);
      left = ap (λ j. iterated_left (pencil w plan from to o) j (read w energy.size l)) (none k);
    }
      where
        none : (k : ℕ) → k ≡ k - 0
        none k = omega arith

    more : (j : ℕ) (x : List Complex) → iterated (pencil w plan from to o) (suc j) x
        ≡ outer_after (outer_iteration (pencil w plan from to o) x) (iterated (pencil w plan from to o) j)
    unfolding iterated outer_iteration
    more j x = from_next (pencil w plan from to o) (iterated (pencil w plan from to o) j) (next_of (pencil w plan from to o) x)

    more_left : (j : ℕ) (s : State) → iterated_left (pencil w plan from to o) (suc j) s
        ≡ after_left (outer_iteration (pencil w plan from to o) s.x) (iteration_left (pencil w plan from to o) s) (iterated_left (pencil w plan from to o) j)
    unfolding iterated_left
    more_left j s = refl

    module _ (ok : PencilRoom (length w) plan) (i : ℕ) (less : i < k) {w₁ w₂ : List Float} (a : Reached w₁ i)
        {t : Progress} (b : IteratesOnce w₁ w₂ plan from to o t) where
      abbrev step : Step
      step = outer_iteration (pencil w plan from to o) (region_c w₁ l.x energy.size)

      abbrev step_left : State
      step_left = iteration_left (pencil w plan from to o) (read w₁ energy.size l)

      steps : Steps w₁ w₂ energy.size l step_left step t
      steps = rw (pencil-stays w from to o ok a.frame) at b

      both : Framed w w₂ energy.size l
      both = framed_then w energy.size l ok.energy-room.vector-room a.frame steps.frame

      one_less : (k i : ℕ) → i < k → k - i ≡ suc (k - (i + 1))
      one_less k i h = omega arith

      whole_is : whole ≡ outer_after step (iterated (pencil w plan from to o) (k - (i + 1)))
      whole_is =
          a.same ∙ ap (λ j. iterated (pencil w plan from to o) j (region_c w₁ l.x energy.size)) (one_less k i less)
          ∙ more (k - (i + 1)) (region_c w₁ l.x energy.size)

      left_is : whole_left ≡ after_left step step_left (iterated_left (pencil w plan from to o) (k - (i + 1)))
      unfolding read
      left_is =
          a.left ∙ ap (λ j. iterated_left (pencil w plan from to o) j (read w₁ energy.size l)) (one_less k i less)
          ∙ more_left (k - (i + 1)) (read w₁ energy.size l)

      pub reach-again : t ≡ Ok false → Reached w₂ (i + 1)
      unfolding outer_after after_left
      reach-again g =
          let p : Pencil = pencil w plan from to o in
          let s : step ≡ going (region_c w₂ l.x energy.size) = step-going step (region_c w₂ l.x energy.size) (sym g ∙ steps.progress) steps.held in
          record {
            frame = both;
            same = whole_is ∙ ap (λ u. outer_after u (iterated p (k - (i + 1)))) s;
            left = left_is ∙ ap (λ u. after_left u step_left (iterated_left p (k - (i + 1)))) s ∙ ap (iterated_left p (k - (i + 1))) (sym steps.left);
          }

      pub reach-ended : (s : Verdict) → t ≡ ended_as s → Iterates w w₂ plan from to o k s
      reach-ended s g =
          let p : Pencil = pencil w plan from to o in
          let e : EndedBy step (iterated p (k - (i + 1))) step_left (iterated_left p (k - (i + 1))) s =
          step-ended step (iterated p (k - (i + 1))) step_left (iterated_left p (k - (i + 1))) s steps.progress g in
          rw (whole_is ∙ e.found, left_is ∙ e.left) (record { frame = both; left = steps.left; stage = e.stage; held = steps.held })

    pub reach-done : {w₁ : List Float} {i : ℕ} {r : Verdict} → i ≤ k → k ≤ i → Reached w₁ i → r ≡ Err (gave_up 12 0) → Iterates w w₁ plan from to o k r
    unfolding iterated iterated_left found_stage
    reach-done {w₁} {i} g h a e =
        let z : k - i ≡ 0 = omega arith in
        let q : whole ≡ gave 12 0 = a.same ∙ ap (λ j. iterated (pencil w plan from to o) j (region_c w₁ l.x energy.size)) z in
        let y : whole_left ≡ read w₁ energy.size l = a.left ∙ ap (λ j. iterated_left (pencil w plan from to o) j (read w₁ energy.size l)) z in
        rw (q, y) (record { frame = a.frame; left = refl; stage = e; held = held })
      where
        held : (v : List Complex) → gave 12 0 ≡ vector v → region_c w₁ l.x energy.size ≡ v
        held v e = let z : ◌≡◌ {A = ℕ} 0 1 = cc in absurd (omega arith)

  -- ---- the start

  pub start-normalized : (w : List Float) (from to : List ℕ) (o : Outer) → SolverRoom (length w) mass l → {w₁ w₂ : List Float} {r : Verdict}
      → w₁ ≡ put_c w l.x (start_in w o mass.size) → Normalizes w₁ w₂ mass l from to r → Starts w w₂ plan from to o r
  unfolding start_left
  start-normalized w from to o ok {w₁} e b =
      let n : ℕ = mass.size in
      let room : VectorRoom (length w) n l = ok.vector-room in
      let s : State = read w n l in
      let z : Sized n s = read-sized w n l in
      let v : List Complex = start_in w o n in
      let h : length v ≡ n = length-start (region nan w o.x n) (region nan w o.y n) ∙ length-region nan w o.x n in
      let t : State = record { x = v; r = s.r; p = s.p; q = s.q; inverse = s.inverse } in
      let y : Sized n t = record { x-n = h; r-n = z.r-n; p-n = z.p-n; q-n = z.q-n; inverse-n = z.inverse-n } in
      let f : w₁ ≡ lay w n l t = e ∙ ap (λ u. put_c u l.x v) (lay-read w n l) ∙ put-x w n l room s z v h in
      let g : Framed w w₁ n l = framed w n l room t y f in
      let x : region_c w₁ l.x n ≡ v = ap (λ u. region_c u l.x n) f ∙ get-x w n l room t y in
      let m : matrix w₁ mass from to ≡ matrix w mass from to = framed-matrix w mass l ok n refl g from to in
      answers-after w n l room g b (rw (m, left_in w n l room t y f)) (rw (m, x))

  -- ---- the whole

  module _ (w : List Float) (from to : List ℕ) (o : Outer) (ok : PencilRoom (length w) plan)
      {w₁ : List Float} {s : Verdict} (a : Starts w w₁ plan from to o s) where
    abbrev first : List Complex
    first = start_in w o energy.size

    abbrev m : Matrix
    m = matrix w mass from to

    start : Answers w w₁ energy.size l (start_left m first (read w energy.size l)) (normalized_of m first) s
    start = subst (λ (k : ℕ). Answers w w₁ k l (start_left m (start_in w o k) (read w k l)) (normalized_of m (start_in w o k)) s) ok.one_size a

    pub inverse-refused : (s ≡ Ok tt → ⊥) → Inverts w w₁ plan from to o s
    unfolding inverse_of inverse_left
    inverse-refused h = ends-first w energy.size l _ _ start h

    pub inverse-iterated : s ≡ Ok tt → {c : Float} {most : ℕ} {w₂ : List Float} {r : Verdict} → c ≡ average_of o.trace energy.size → most ≡ inner_most energy.size
        → Iterates w₁ w₂ plan from to (record { average = c; most = most }) o.iterations r → Inverts w w₂ plan from to o r
    unfolding inverse_of inverse_left pencil_of
    inverse-iterated d {c} {most} {w₂} {r} ec em b =
        let n : ℕ = energy.size in
        let t : Limits = record { average = c; most = most } in
        let h : length first ≡ n = length-start (region nan w o.x n) (region nan w o.y n) ∙ length-region nan w o.x n in
        let p : Pencil = pencil_of m (matrix w energy from to) o.trace (length first) in
        let q : p ≡ pencil w₁ plan from to t = rw (h, ← ec, ← em) (sym (pencil-stays w from to t ok start.frame)) in
        ends-second w n l ok.energy-room.vector-room (iterated p o.iterations) (iterated_left p o.iterations) start d (rw q b)
