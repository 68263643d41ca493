-- A vector that is found is as long as the one that was given: what a pass's count of angles rests on. Assumes nothing.
use mathlib.Core.Path.{◌≡◌, refl, ap, ◌∙◌}
use mathlib.Core.Bool.{Bool, true, false, cond}
use mathlib.Core.List.{List}
use Prim.Native.Nat.{ℕ, zero, suc}
use native.Mathlib.Omega.{arith}
use Rattle.std.specs.Prelude.{Option, Some, None}
use Rattle.std.specs.Option.{option_map_or}
use lib.Ieee.{Float, le}
use lib.ListN.{length, replicate, length-replicate}
use Rattle.float.specs.Double.{recip_of, not_positive, ◌⊗◌, ◌⊘◌}
use Rattle.root.specs.Root.{root_of}
use Rattle.complex.specs.declared.Complex.{Complex}
use Rattle.complex.specs.Complex.{czero}
use Rattle.linear_cells.proofs.Loops.{length-tab}
use Rattle.linear_hermitian.specs.Hermitian.{Matrix, dot_of, vector_norm, scaled, applied}
use Rattle.linear_vectors.specs.Vectors.{zip_of, add_scaled, sub_scaled, recips_of, scaled_by}
use Rattle.linear_vectors.proofs.Zip.{length-zip_of}
use Rattle.linear_conjugate_gradient.specs.Method.{first_not_positive, LoopState, step_by, steps, conjugate_gradient, mass_squared, normalized_of}
use Rattle.linear_conjugate_gradient.specs.Found.{Found, vector, gave}
use Rattle.pass_solution.specs.Solution.{onward, inner_tolerance, solution_of}

-- ---- what is found

-- a vector in it has n elements
pub record Long (n : ℕ) (f : Found) : Type 0 where
  pub long : (v : List Complex) → f ≡ vector v → length v ≡ n

pub long-gave : (n r i : ℕ) → Long n (gave r i)
long-gave n r i = record { long = λ v e. never v e }
  where
    never : (v : List Complex) → gave r i ≡ vector v → length v ≡ n
    never v e = let z : ◌≡◌ {A = ℕ} 0 1 = cc in absurd (omega arith)

pub long-vector : (n : ℕ) (x : List Complex) → length x ≡ n → Long n (vector x)
long-vector n x h = record { long = λ v e. same v e ∙ h }
  where
    same : (v : List Complex) → vector x ≡ vector v → length v ≡ length x
    same v e = let q : v ≡ x = cc in ap length q

pub long-onward : (n : ℕ) (f : Found) (g : List Complex → Found) → Long n f → ((v : List Complex) → length v ≡ n → Long n (g v)) → Long n (onward f g)
unfolding onward
long-onward n (vector v) g a b = b v (a.long v refl)
long-onward n (gave r i) g a b = a

pub long-cond : (n : ℕ) (b : Bool) (f g : Found) → Long n f → Long n g → Long n (cond b f g)
long-cond n true f g y z = y
long-cond n false f g y z = z

-- a place where there is one
pub long-place : (n : ℕ) (v : Option ℕ) (f : ℕ → Found) (g : Found) → ((i : ℕ) → Long n (f i)) → Long n g → Long n (option_map_or f v g)
long-place n None f g y z = z
long-place n (Some i) f g y z = y i

-- ---- conjugate gradients

step-long : (n : ℕ) (m : Matrix) (inverse : List Float) (limit : Float) (s : LoopState) (next : LoopState → Found) → length s.x ≡ n
    → ((t : LoopState) → length t.x ≡ n → Long n (next t)) → Long n (step_by m inverse limit s next)
unfolding step_by
step-long n m inverse limit s next e f =
    let q : List Complex = applied m s.direction in
    let denominator : Float = (dot_of s.direction q).re in
    let alpha : Float = s.residual_dot ⊘ denominator in
    let x : List Complex = zip_of (add_scaled alpha) s.x s.direction in
    let r : List Complex = zip_of (sub_scaled alpha) s.residual q in
    let dot : Float = (dot_of (scaled inverse r) r).re in
    let d : List Complex = zip_of (add_scaled (dot ⊘ s.residual_dot)) (scaled inverse r) s.direction in
    let h : length x ≡ n = length-zip_of (add_scaled alpha) s.x s.direction ∙ e in
    long-cond n (not_positive denominator) _ _ (long-gave n 6 0)
    (long-cond n (le (vector_norm r) limit) _ _ (long-vector n x h)
    (long-cond n (not_positive dot) _ _ (long-gave n 7 0) (f (record { x = x; residual = r; direction = d; residual_dot = dot }) h)))

steps-long : (n : ℕ) (m : Matrix) (inverse : List Float) (limit : Float) (k : ℕ) (s : LoopState) → length s.x ≡ n → Long n (steps m inverse limit k s)
unfolding steps
steps-long n m inverse limit zero s e = long-gave n 8 0
steps-long n m inverse limit (suc k) s e = step-long n m inverse limit s (steps m inverse limit k) e (λ t h. steps-long n m inverse limit k t h)

pub solution-long : (m : Matrix) (k : ℕ) (rhs : List Complex) → Long (length rhs) (solution_of m k rhs)
unfolding solution_of conjugate_gradient
solution-long m k rhs =
    let n : ℕ = length rhs in
    let z : List Complex = scaled (recips_of m.diagonal) rhs in
    let dot : Float = (dot_of z rhs).re in
    let s : LoopState = record { x = replicate n czero; residual = rhs; direction = z; residual_dot = dot } in
    long-cond n (not_positive (vector_norm rhs)) _ _ (long-gave n 3 0)
    (long-place n (first_not_positive m.diagonal) _ _ (long-gave n 4)
    (long-cond n (not_positive dot) _ _ (long-gave n 5 0)
    (steps-long n m (recips_of m.diagonal) (inner_tolerance ⊗ vector_norm rhs) k s (length-replicate n czero))))

-- ---- normalize_in_mass

pub normalized-long : (mass : Matrix) (x : List Complex) → Long (length x) (normalized_of mass x)
unfolding normalized_of scaled_by
normalized-long mass x =
    long-cond (length x) (not_positive (mass_squared mass x)) _ _ (long-gave (length x) 9 0) (long-vector (length x) (scaled_by (recip_of (root_of (mass_squared mass x))) x) (length-tab _ (length x)))
