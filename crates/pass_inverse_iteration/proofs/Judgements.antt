-- The Rayleigh quotient, the residual, and what an iteration makes of them. Assumes nothing.
use mathlib.Core.Path.{◌≡◌, refl, sym, ap, ◌∙◌}
use mathlib.Core.Bool.{Bool, true, false, not}
use mathlib.Core.List.{List}
use Prim.Native.Nat.{ℕ}
use native.Mathlib.Omega.{arith}
use lib.Ieee.{Float, le}
use lib.ListN.{length}
use Rattle.std.specs.Prelude.{Ok, Err}
use Rattle.float.specs.Double.{lit, is_finite, max_of, not_positive, ◌⊘◌}
use Rattle.root.specs.Root.{root_of}
use Rattle.complex.specs.declared.Complex.{Complex}
use Rattle.linear_cells.specs.Cell.{region_c, put_c}
use Rattle.linear_hermitian.specs.declared.Hermitian.{Hermitian}
use Rattle.linear_hermitian.specs.Hermitian.{Matrix, dot_of, vector_norm, applied}
use Rattle.linear_hermitian.specs.Work.{matrix}
use Rattle.linear_hermitian.proofs.Product.{length-applied}
use Rattle.linear_vectors.proofs.Zip.{length-zip_of}
use Rattle.linear_vectors.specs.declared.residual.Sums.{Sums}
use Rattle.linear_vectors.specs.ResidualWork.{Reduced}
use Rattle.linear_vectors.proofs.Residuals.{length-products_of}
use Rattle.linear_conjugate_gradient.specs.declared.Vectors.{Vectors}
use Rattle.linear_conjugate_gradient.specs.Method.{mass_squared}
use Rattle.linear_conjugate_gradient.specs.Solve.{State}
use Rattle.linear_conjugate_gradient.specs.Work.{read, lay, VectorRoom}
use Rattle.linear_conjugate_gradient.proofs.Lays.{Sized, read-sized, lay-read, get-x, get-p, get-q, get-matrix, put-p, put-q, lay-then}
use Rattle.refusals.specs.Refusal.{gave_up}
use Rattle.linear_conjugate_gradient.specs.Found.{vector, gave}
use Rattle.pass_solution.specs.Work.{found_stage}
use Rattle.pass_solution.proofs.Stages.{framed, left_in}
use Rattle.pass_inverse_iteration.specs.declared.Limits.{Limits}
use Rattle.pass_inverse_iteration.specs.declared.PencilPlan.{PencilPlan}
use Rattle.pass_inverse_iteration.specs.declared.Quotient.{Quotient}
use Rattle.pass_inverse_iteration.specs.Inverse.{Pencil, outer_tolerance, estimate_of, residual_by, relative_of}
use Rattle.pass_inverse_iteration.specs.Memory.{outer_judged, quoted, left_over, subtracted, judged_left}
use Rattle.pass_inverse_iteration.specs.Work.{PencilRoom, pencil, Quotients, Relative, progress_of, carried, Judges, Progress}

-- ---- a slice as long has the same room

pub same-pencil : {len len' : ℕ} {plan : PencilPlan} → len' ≡ len → PencilRoom len plan → PencilRoom len' plan
same-pencil e ok = rw e ok

pub same-vectors : {len len' : ℕ} → len' ≡ len → (n : ℕ) (l : Vectors) → VectorRoom len n l → VectorRoom len' n l
same-vectors e n l ok = rw e ok

-- ---- relative

module _ (w : List Float) (n : ℕ) (l : Vectors) (ok : VectorRoom (length w) n l) where
  subtracted-sized : (lambda : Float) → Sized n (subtracted lambda (read w n l))
  unfolding subtracted
  subtracted-sized lambda =
      let z : Sized n (read w n l) = read-sized w n l in
      record { x-n = z.x-n; r-n = z.r-n; p-n = rw (length-products_of, length-zip_of) z.q-n; q-n = rw length-zip_of z.q-n; inverse-n = z.inverse-n }

  pub relative-all : (lambda average : Float) {w₁ : List Float} {t : Sums} {k r : Float} → Reduced w w₁ l.applied l.direction l.inverse n lambda t
      → k ≡ max_of t.square (lit 0) → r ≡ root_of k → Relative w w₁ n l lambda average (r ⊘ average)
  unfolding subtracted vector_norm read
  relative-all lambda average {w₁} {t} {k} {r} e ek er =
      let s : State = read w n l in
      let z : Sized n s = read-sized w n l in
      let u : State = subtracted lambda s in
      let y : Sized n u = subtracted-sized lambda in
      let s₁ : State = record { x = s.x; r = s.r; p = s.p; q = u.q; inverse = s.inverse } in
      let z₁ : Sized n s₁ = record { x-n = z.x-n; r-n = z.r-n; p-n = z.p-n; q-n = y.q-n; inverse-n = z.inverse-n } in
      let f : put_c w l.applied u.q ≡ lay w n l s₁ = ap (λ v. put_c v l.applied u.q) (lay-read w n l) ∙ put-q w n l ok s z u.q y.q-n in
      record {
        work = e.work ∙ rw f (put-p w n l ok s₁ z₁ u.p y.p-n);
        result = rw (er, ek, e.square);
      }

-- a step that carries the iterate, or a reason, where it stands unchanged
gave-held : {A : Type 0} (r i : ℕ) (v : List Complex) → gave r i ≡ vector v → A
gave-held r i v e = let z : ◌≡◌ {A = ℕ} 0 1 = cc in absurd (omega arith)

module _ (plan : PencilPlan) where
  abbrev mass : Hermitian
  mass = plan.mass

  abbrev energy : Hermitian
  energy = plan.energy

  abbrev l : Vectors
  l = plan.vectors

  -- ---- rayleigh

  module _ (w : List Float) (from to : List ℕ) (ok : PencilRoom (length w) plan) where
    abbrev n : ℕ
    n = energy.size

    abbrev x : List Complex
    x = region_c w l.x n

    abbrev m : Matrix
    m = matrix w mass from to

    abbrev e : Matrix
    e = matrix w energy from to

    abbrev s : State
    s = read w n l

    room : VectorRoom (length w) n l
    room = ok.energy-room.vector-room

    quoted-sized : Sized n (quoted m e s)
    unfolding quoted read
    quoted-sized =
        let z : Sized n s = read-sized w n l in
        record { x-n = z.x-n; r-n = z.r-n; p-n = length-applied m x ∙ z.x-n; q-n = length-applied e x ∙ z.x-n; inverse-n = z.inverse-n }

    pub rayleigh-all : {w₁ w₂ : List Float} {q : Quotient}
        → w₁ ≡ put_c w l.direction (applied m (region_c w l.x mass.size))
        → w₂ ≡ put_c w₁ l.applied (applied (matrix w₁ energy from to) (region_c w₁ l.x n))
        → q.numerator ≡ (dot_of (region_c w₂ l.x n) (region_c w₂ l.applied n)).re
        → q.denominator ≡ (dot_of (region_c w₂ l.x n) (region_c w₂ l.direction n)).re
        → Quotients w w₂ plan from to q
    unfolding quoted mass_squared read
    rayleigh-all {w₁} {w₂} {q} e₁ e₂ en ed =
        let z : Sized n s = read-sized w n l in
        let t : State = quoted m e s in
        let y : Sized n t = quoted-sized in
        let s₁ : State = record { x = s.x; r = s.r; p = t.p; q = s.q; inverse = s.inverse } in
        let z₁ : Sized n s₁ = record { x-n = z.x-n; r-n = z.r-n; p-n = y.p-n; q-n = z.q-n; inverse-n = z.inverse-n } in
        let f₁ : w₁ ≡ lay w n l s₁ =
        e₁ ∙ ap (λ k. put_c w l.direction (applied m (region_c w l.x k))) ok.one_size
        ∙ ap (λ v. put_c v l.direction t.p) (lay-read w n l) ∙ put-p w n l room s z t.p y.p-n in
        let f₂ : w₂ ≡ lay w n l t =
        e₂ ∙ rw (f₁, get-matrix w energy l ok.energy-room s₁ z₁ from to, get-x w n l room s₁ z₁) (put-q w n l room s₁ z₁ t.q y.q-n) in
        record {
          work = f₂;
          numerator = en ∙ rw (f₂, get-x w n l room t y, get-q w n l room t y);
          denominator = ed ∙ rw (f₂, get-x w n l room t y, get-p w n l room t y);
        }

  -- ---- judge

  module _ (w : List Float) (from to : List ℕ) (o : Limits) (ok : PencilRoom (length w) plan)
      {w₁ : List Float} {q : Quotient} (a : Quotients w w₁ plan from to q) where
    abbrev p : Pencil
    p = pencil w plan from to o

    abbrev next : List Complex
    next = region_c w l.x energy.size

    abbrev after : State
    after = quoted (matrix w mass from to) (matrix w energy from to) (read w energy.size l)

    after-sized : Sized energy.size after
    after-sized = quoted-sized w from to ok

    vectors : VectorRoom (length w) energy.size l
    vectors = ok.energy-room.vector-room

    read_is : read w₁ energy.size l ≡ after
    read_is = left_in w energy.size l vectors after after-sized a.work

    estimate-is : q.numerator ⊘ q.denominator ≡ estimate_of p next
    unfolding estimate_of
    estimate-is = rw (a.numerator, a.denominator)

    mass-not-positive : {b : Bool} → b ≡ not_positive q.denominator → not_positive (mass_squared p.mass next) ≡ b
    mass-not-positive e = sym (e ∙ ap (λ u. not_positive u) a.denominator)

    pub judge-denominator : {b : Bool} {t : Progress} → b ≡ not_positive q.denominator → b ≡ true → t ≡ Err (gave_up 10 0) → Judges w w₁ plan from to o t
    unfolding outer_judged judged_left progress_of carried found_stage read
    judge-denominator eb tb et =
        let u : not_positive (mass_squared p.mass next) ≡ true = mass-not-positive eb ∙ tb in
        rw u (record {
          frame = framed w energy.size l vectors after after-sized a.work;
          left = read_is;
          progress = et;
          held = λ v e. gave-held 10 0 v e;
        })

    module _ {b : Bool} (eb : b ≡ not_positive q.denominator) (fb : b ≡ false) {g : Bool} (eg : g ≡ is_finite (q.numerator ⊘ q.denominator)) where
      fit : not_positive (mass_squared p.mass next) ≡ false
      fit = mass-not-positive eb ∙ fb

      finite : is_finite (estimate_of p next) ≡ g
      finite = sym (eg ∙ ap (λ u. is_finite u) estimate-is)

      pub judge-estimate : {t : Progress} → not g ≡ true → t ≡ Err (gave_up 11 0) → Judges w w₁ plan from to o t
      unfolding outer_judged judged_left progress_of carried found_stage read
      judge-estimate fg et =
          let u : not (is_finite (estimate_of p next)) ≡ true = ap not finite ∙ fg in
          rw (fit, u) (record {
            frame = framed w energy.size l vectors after after-sized a.work;
            left = read_is;
            progress = et;
            held = λ v e. gave-held 11 0 v e;
          })

      module _ (tg : not g ≡ false) {w₂ : List Float} {r : Float} (c : Relative w₁ w₂ energy.size l (q.numerator ⊘ q.denominator) o.average r) where
        sound : not (is_finite (estimate_of p next)) ≡ false
        sound = ap not finite ∙ tg

        relative-is : r ≡ relative_of p next
        unfolding relative_of residual_by quoted read
        relative-is =
            c.result ∙ ap (λ (t : State). vector_norm (left_over (q.numerator ⊘ q.denominator) t) ⊘ o.average) read_is
            ∙ ap (λ k. vector_norm (residual_by k p next) ⊘ o.average) estimate-is

        abbrev last : State
        last = subtracted (q.numerator ⊘ q.denominator) after

        last-sized : Sized energy.size last
        unfolding subtracted
        last-sized =
            let z : Sized energy.size after = after-sized in
            record { x-n = z.x-n; r-n = z.r-n; p-n = rw (length-products_of, length-zip_of) z.q-n; q-n = rw length-zip_of z.q-n; inverse-n = z.inverse-n }

        last-is : w₂ ≡ lay w energy.size l last
        last-is = lay-then w energy.size l vectors after after-sized last last-sized a.work (c.work ∙ rw read_is)

        last-left : read w₂ energy.size l ≡ subtracted (estimate_of p next) after
        last-left = left_in w energy.size l vectors last last-sized last-is ∙ ap (λ k. subtracted k after) estimate-is

        next-stays : region_c w₂ l.x energy.size ≡ next
        next-stays = ap (λ v. region_c v l.x energy.size) last-is ∙ get-x w energy.size l vectors last last-sized ∙ (unfold subtracted quoted read in refl)

        pub judge-ended : (b : Bool) → b ≡ le r outer_tolerance → Judges w w₂ plan from to o (Ok b)
        unfolding outer_judged judged_left progress_of carried found_stage read
        judge-ended true t =
            let u : le (relative_of p next) outer_tolerance ≡ true = rw relative-is at (sym t) in
            rw (fit, sound, u) (record {
              frame = framed w energy.size l vectors last last-sized last-is;
              left = last-left;
              progress = refl;
              held = λ v e. next-stays ∙ cc;
            })
        judge-ended false t =
            let u : le (relative_of p next) outer_tolerance ≡ false = rw relative-is at (sym t) in
            rw (fit, sound, u) (record {
              frame = framed w energy.size l vectors last last-sized last-is;
              left = last-left;
              progress = refl;
              held = λ v e. next-stays ∙ cc;
            })
