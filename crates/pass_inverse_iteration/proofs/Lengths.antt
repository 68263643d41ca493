-- The vector that the iteration finds is as long as the start vector. Assumes nothing.
use mathlib.Core.Path.{◌≡◌, subst, ◌∙◌}
use mathlib.Core.Bool.{not}
use mathlib.Core.List.{List}
use Prim.Native.Nat.{ℕ, zero, suc}
use lib.Ieee.{Float, le}
use lib.ListN.{length}
use Rattle.float.specs.Double.{is_finite, not_positive}
use Rattle.complex.specs.declared.Complex.{Complex}
use Rattle.linear_hermitian.specs.Hermitian.{Matrix, applied}
use Rattle.linear_hermitian.proofs.Product.{length-applied}
use Rattle.linear_conjugate_gradient.specs.Method.{mass_squared, normalized_of}
use Rattle.linear_conjugate_gradient.specs.Found.{Found}
use Rattle.pass_solution.specs.Solution.{solution_of}
use Rattle.pass_solution.proofs.Lengths.{Long, long-gave, long-vector, long-cond, long-onward, solution-long, normalized-long}
use Rattle.pass_inverse_iteration.specs.Inverse.{Pencil, outer_tolerance, next_of, estimate_of, relative_of, judged_by, iterated, pencil_of, inverse_of}

-- a start of n elements
normal-long : (n : ℕ) (mass : Matrix) (x : List Complex) → length x ≡ n → Long n (normalized_of mass x)
normal-long n mass x e = subst (λ (k : ℕ). Long k (normalized_of mass x)) e (normalized-long mass x)

next-long : (n : ℕ) (p : Pencil) (x : List Complex) → length x ≡ n → Long n (next_of p x)
unfolding next_of
next-long n p x e =
    let rhs : List Complex = applied p.mass x in
    let f : Found = solution_of p.energy p.most rhs in
    long-onward n f (normalized_of p.mass) (subst (λ (k : ℕ). Long k f) (length-applied p.mass x ∙ e) (solution-long p.energy p.most rhs)) (λ v h. normal-long n p.mass v h)

judged-long : (n : ℕ) (p : Pencil) (next : List Complex) (further : List Complex → Found) → length next ≡ n → Long n (further next) → Long n (judged_by p next further)
unfolding judged_by
judged-long n p next further e h =
    long-cond n (not_positive (mass_squared p.mass next)) _ _ (long-gave n 10 0)
    (long-cond n (not (is_finite (estimate_of p next))) _ _ (long-gave n 11 0)
    (long-cond n (le (relative_of p next) outer_tolerance) _ _ (long-vector n next e) h))

iterated-long : (n : ℕ) (p : Pencil) (k : ℕ) (x : List Complex) → length x ≡ n → Long n (iterated p k x)
unfolding iterated
iterated-long n p zero x e = long-gave n 12 0
iterated-long n p (suc k) x e =
    long-onward n (next_of p x) (λ next. judged_by p next (iterated p k)) (next-long n p x e) (λ v h. judged-long n p v (iterated p k) h (iterated-long n p k v h))

pub inverse-long : (mass energy : Matrix) (trace : Float) (iterations : ℕ) (start : List Complex) → Long (length start) (inverse_of mass energy trace iterations start)
unfolding inverse_of
inverse-long mass energy trace iterations start =
    let n : ℕ = length start in
    long-onward n (normalized_of mass start) (iterated (pencil_of mass energy trace n) iterations) (normalized-long mass start)
    (λ v h. iterated-long n (pencil_of mass energy trace n) iterations v h)
