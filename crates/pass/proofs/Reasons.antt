-- What the solver gives up by is one of row 24's reasons 3 to 12, with a place for reason 4 alone. Assumes nothing.
use Prim.Native.Nat.{ℕ, zero, suc}
use native.Mathlib.Omega.{arith}
use mathlib.Core.Path.{◌≡◌, refl, subst}
use mathlib.Core.Bool.{Bool, true, false, cond}
use mathlib.Core.List.{List}
use lib.Dec.{T, leb, leb→le}
use lib.ListN.{length}
use lib.Ieee.{Float}
use Rattle.std.specs.Prelude.{Option, Some, None}
use Rattle.std.specs.Option.{option_map_or}
use Rattle.complex.specs.declared.Complex.{Complex}
use Rattle.linear_hermitian.specs.Hermitian.{Matrix, applied}
use Rattle.linear_conjugate_gradient.specs.Found.{Found, vector, gave}
use Rattle.linear_conjugate_gradient.specs.Method.{LoopState, step_by, steps, conjugate_gradient, normalized_of}
use Rattle.pass_solution.specs.Solution.{onward, solution_of}
use Rattle.pass_inverse_iteration.specs.Inverse.{Pencil, next_of, judged_by, iterated, pencil_of, inverse_of}
use Rattle.pass.specs.Rows.{SolverReason}

pub record Reasoned (f : Found) : Type 0 where
  pub by : (r i : ℕ) → f ≡ gave r i → SolverReason r i

given : (r i : ℕ) → SolverReason r i → Reasoned (gave r i)
given r i h = record { by = λ s j e. same s j e }
  where
    same : (s j : ℕ) → gave r i ≡ gave s j → SolverReason s j
    same s j e = let p : r ≡ s = cc in let q : i ≡ j = cc in subst (λ (x : ℕ). SolverReason x j) p (subst (λ (x : ℕ). SolverReason r x) q h)

-- a reason without a place
plain : (r : ℕ) → T (leb 3 r) → T (leb r 13) → Reasoned (gave r 0)
plain r h g = given r 0 (record { from = leb→le 3 r h; to = leb→le r 13 g; no_place = λ n. refl })

found : (v : List Complex) → Reasoned (vector v)
found v = record { by = λ r i e. absurd (never r i e) }
  where
    never : (r i : ℕ) → vector v ≡ gave r i → ⊥
    never r i e = let z : ◌≡◌ {A = ℕ} 0 1 = cc in omega arith

-- reason 4 has a vertex
at-vertex : (i : ℕ) → Reasoned (gave 4 i)
at-vertex i = given 4 i (record { from = omega arith; to = omega arith; no_place = λ n. absurd (n refl) })

either : (b : Bool) (f g : Found) → Reasoned f → Reasoned g → Reasoned (cond b f g)
either true f g h k = h
either false f g h k = k

or-vertex : (v : Option ℕ) (f : ℕ → Found) (g : Found) → ((i : ℕ) → Reasoned (f i)) → Reasoned g → Reasoned (option_map_or f v g)
or-vertex None f g h k = k
or-vertex (Some i) f g h k = h i

ruleset reasons = (either, or-vertex, plain, at-vertex, found, tt)

-- ---- the linear solver

step-reasoned : (m : Matrix) (inverse : List Float) (limit : Float) (s : LoopState) (next : LoopState → Found) → ((t : LoopState) → Reasoned (next t)) → Reasoned (step_by m inverse limit s next)
unfolding step_by
step-reasoned m inverse limit s next h = search reasons

steps-reasoned : (m : Matrix) (inverse : List Float) (limit : Float) (k : ℕ) (s : LoopState) → Reasoned (steps m inverse limit k s)
unfolding steps
steps-reasoned m inverse limit zero s = plain 8 tt tt
steps-reasoned m inverse limit (suc k) s = step-reasoned m inverse limit s (steps m inverse limit k) (steps-reasoned m inverse limit k)

pub solution-reasoned : (m : Matrix) (k : ℕ) (rhs : List Complex) → Reasoned (solution_of m k rhs)
unfolding solution_of conjugate_gradient
solution-reasoned m k rhs = search (reasons, steps-reasoned)

-- ---- the inverse iteration

normalized-reasoned : (mass : Matrix) (x : List Complex) → Reasoned (normalized_of mass x)
unfolding normalized_of
normalized-reasoned mass x = search reasons

onward-reasoned : (f : Found) (g : List Complex → Found) → Reasoned f → ((v : List Complex) → Reasoned (g v)) → Reasoned (onward f g)
unfolding onward
onward-reasoned (vector v) g h k = k v
onward-reasoned (gave r i) g h k = h

iterated-reasoned : (p : Pencil) (k : ℕ) (x : List Complex) → Reasoned (iterated p k x)
unfolding iterated next_of judged_by
iterated-reasoned p zero x = plain 12 tt tt
iterated-reasoned p (suc k) x =
    onward-reasoned (onward (solution_of p.energy p.most (applied p.mass x)) (normalized_of p.mass)) (λ next. judged_by p next (iterated p k))
    (onward-reasoned (solution_of p.energy p.most (applied p.mass x)) (normalized_of p.mass) (solution-reasoned p.energy p.most (applied p.mass x)) (normalized-reasoned p.mass))
    (λ next. search (reasons, iterated-reasoned p k))

pub inverse-reasoned : (mass energy : Matrix) (trace : Float) (iterations : ℕ) (start : List Complex) → Reasoned (inverse_of mass energy trace iterations start)
unfolding inverse_of
inverse-reasoned mass energy trace iterations start =
    onward-reasoned (normalized_of mass start) (iterated (pencil_of mass energy trace (length start)) iterations) (normalized-reasoned mass start) (iterated-reasoned (pencil_of mass energy trace (length start)) iterations)
