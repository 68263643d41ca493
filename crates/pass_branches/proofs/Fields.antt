-- A field that a branch finds has an angle for each point, and each is that of a cross: what demand 3 rests on. Assumes nothing.
use mathlib.Core.Path.{◌≡◌, refl, sym, ap, ◌∙◌}
use mathlib.Core.Bool.{Bool, true, false, cond}
use mathlib.Core.List.{List, [], ◌∷◌}
use Prim.Native.Nat.{ℕ, ◌<◌}
use native.Mathlib.Omega.{arith}
use lib.Ieee.{Float, nan, lt}
use lib.ListN.{length, get_or, length-replicate}
use Rattle.float.specs.Double.{lit}
use Rattle.complex.specs.declared.Complex.{Complex}
use Rattle.complex.specs.Complex.{czero}
use Rattle.complex.specs.Angle.{IsCross}
use Rattle.linear_cells.proofs.Loops.{length-tab}
use Rattle.linear_hermitian.specs.Hermitian.{Matrix}
use Rattle.linear_vectors.proofs.Zip.{length-zip_of}
use Rattle.pass_boundary.proofs.Points.{length-targets}
use Rattle.pass_constraints.specs.Constraints.{added_inside, coupled, penalties}
use Rattle.pass_soft.specs.Soft.{Term, System, softened_by, softened}
use Rattle.pass_systems.specs.Systems.{plain, soft_system, penalty, weak_system, inside_by, inside, fixed_by, tangent_system}
use Rattle.linear_conjugate_gradient.specs.Found.{Found, vector, gave}
use Rattle.pass_solution.specs.Solution.{solution_of, linear_most}
use Rattle.pass_solution.proofs.Lengths.{Long, solution-long}
use Rattle.pass_inverse_iteration.specs.Start.{ramped_by, start_of}
use Rattle.pass_inverse_iteration.specs.Inverse.{inverse_of}
use Rattle.pass_inverse_iteration.proofs.Lengths.{inverse-long}
use Rattle.pass_field.specs.Field.{Angles, angles, endless, field_of}
use Rattle.pass_field.proofs.Angles.{field-cross}
use Rattle.floor.specs.Floor.{Floor, point_count, value_at}
use Rattle.refusals.specs.declared.Refusal.{Refusal}
use Rattle.refusals.specs.Refusal.{row_at}
use Rattle.pass_options.specs.declared.Options.{Options}
use Rattle.pass_options.specs.declared.BoundaryMode.{BoundaryMode}
use Rattle.pass_options.specs.declared.BoundaryMode.TheVariants.{None, Tangent, Weak}
use Rattle.pass_options.specs.Options.{Guidance}
use Rattle.pass_options.specs.Pass.{Passed, field, faulty}
use Rattle.pass_branches.specs.Branches.{Built, no_terms, targets_in, after_angles, after_vector, linear, free, by_mode, unbounded, branch_of}

-- n angles, each of a cross, where there is a field
pub record Crossed (n : ℕ) (p : Passed) : Type 0 where
  pub as_many : (alpha : List Float) → p ≡ field alpha → length alpha ≡ n
  pub range : (alpha : List Float) → p ≡ field alpha → (i : ℕ) → i < length alpha → IsCross (get_or alpha i nan)

-- ---- from a vector of n numbers

crossed-angles : (n : ℕ) (x : List Complex) → length x ≡ n → (g : Angles) → field_of x ≡ g → Crossed n (after_angles g)
crossed-angles n x k (angles a) e = record { as_many = λ alpha q. many alpha q; range = λ alpha q. ranged alpha q }
  where
    many : (alpha : List Float) → field a ≡ field alpha → length alpha ≡ n
    many alpha q = let z : a ≡ alpha = cc in ap length (sym z) ∙ (field-cross x a e).as_many ∙ k

    ranged : (alpha : List Float) → field a ≡ field alpha → (i : ℕ) → i < length alpha → IsCross (get_or alpha i nan)
    ranged alpha q = let z : a ≡ alpha = cc in rw z at (field-cross x a e).range
crossed-angles n x k endless e = record { as_many = λ alpha q. absurd (never alpha q); range = λ alpha q. absurd (never alpha q) }
  where
    never : (alpha : List Float) → after_angles endless ≡ field alpha → ⊥
    never alpha q = let z : ◌≡◌ {A = ℕ} 0 1 = cc in omega arith

crossed-faulty : (n : ℕ) (x : Refusal) → Crossed n (faulty x)
crossed-faulty n x = record { as_many = λ alpha q. absurd (never alpha q); range = λ alpha q. absurd (never alpha q) }
  where
    never : (alpha : List Float) → faulty x ≡ field alpha → ⊥
    never alpha q = let z : ◌≡◌ {A = ℕ} 0 1 = cc in omega arith

crossed-found : (n : ℕ) (f : Found) → Long n f → Crossed n (after_vector f)
crossed-found n (vector v) k = crossed-angles n v (k.long v refl) (field_of v) refl
crossed-found n (gave r i) k = crossed-faulty n _

crossed-cond : (n : ℕ) (b : Bool) (p q : Passed) → Crossed n p → Crossed n q → Crossed n (cond b p q)
crossed-cond n true p q a b = a
crossed-cond n false p q a b = b

-- ---- a linear system with a right-hand side of n numbers

crossed-linear : (n k iterations : ℕ) (s : System) → length s.rhs ≡ n → Crossed n (linear k iterations s)
unfolding linear
crossed-linear n k iterations s e = crossed-found n (solution_of s.matrix (linear_most k iterations) s.rhs) (rw e at (solution-long s.matrix (linear_most k iterations) s.rhs))

softened-rhs : (mass : Matrix) (ts : List Term) (s : System) → length (softened mass ts s).rhs ≡ length s.rhs
unfolding softened softened_by
softened-rhs mass [] s = refl
softened-rhs mass (t ∷ ts) s = softened-rhs mass ts (softened_by mass t s) ∙ length-zip_of _ s.rhs _

inside-rhs : (flags : List ℕ) (mass : Matrix) (ts : List Term) (s : System) → length (inside flags mass ts s).rhs ≡ length s.rhs
unfolding inside inside_by added_inside
inside-rhs flags mass [] s = refl
inside-rhs flags mass (t ∷ ts) s = inside-rhs flags mass ts (inside_by flags mass t s) ∙ length-tab _ (length s.rhs)

plain-rhs : (energy : Matrix) (n : ℕ) → length (plain energy n).rhs ≡ n
unfolding plain
plain-rhs energy n = length-replicate n czero

soft-rhs : (mass energy : Matrix) (ts : List Term) (n : ℕ) → length (soft_system mass energy ts n).rhs ≡ n
unfolding soft_system
soft-rhs mass energy ts n = softened-rhs mass ts (plain energy n) ∙ plain-rhs energy n

weak-rhs : (weight : Float) (flags : List ℕ) (targets : List Complex) (mass energy : Matrix) (ts : List Term) → length (weak_system weight flags targets mass energy ts).rhs ≡ length targets
unfolding weak_system penalty penalties
weak-rhs weight flags targets mass energy ts = softened-rhs mass ts (penalty weight flags targets mass energy) ∙ length-tab _ (length targets)

tangent-rhs : (flags : List ℕ) (targets : List Complex) (mass energy : Matrix) (ts : List Term) (n : ℕ) → length (tangent_system flags targets mass energy ts n).rhs ≡ n
unfolding tangent_system fixed_by coupled
tangent-rhs flags targets mass energy ts n = length-tab _ (length (inside flags mass ts (plain energy n)).rhs) ∙ inside-rhs flags mass ts (plain energy n) ∙ plain-rhs energy n

-- ---- the branches

crossed-inverse : (n : ℕ) (mass energy : Matrix) (trace : Float) (k : ℕ) (start : List Complex) → length start ≡ n → Crossed n (after_vector (inverse_of mass energy trace k start))
crossed-inverse n mass energy trace k start e = crossed-found n (inverse_of mass energy trace k start) (rw e at (inverse-long mass energy trace k start))

crossed-free : (b : Built) (n : ℕ) (start : List Complex) (ts : List Term) (k : ℕ) → length start ≡ n → Crossed n (free b n start ts k)
unfolding free
crossed-free b n start ts k e =
    crossed-cond n (no_terms ts) _ _ (crossed-inverse n _ _ _ k start e) (crossed-linear n n k (soft_system b.mass b.energy ts n) (soft-rhs b.mass b.energy ts n))

crossed-mode : (mode : BoundaryMode) (b : Built) (n : ℕ) (flags : List ℕ) (targets start : List Complex) (ts : List Term) (k : ℕ) → length targets ≡ n → length start ≡ n
    → Crossed n (by_mode mode b n flags targets start ts k)
crossed-mode None b n flags targets start ts k et e = crossed-free b n start ts k e
crossed-mode Tangent b n flags targets start ts k et e = crossed-linear n n k _ (tangent-rhs flags targets b.mass b.energy ts n)
crossed-mode (Weak weight) b n flags targets start ts k et e =
    crossed-cond n (lt (lit 0) weight) _ _ (crossed-linear n n k _ (weak-rhs weight flags targets b.mass b.energy ts ∙ et)) (crossed-free b n start ts k e)

length-start : (xs ys : List Float) → length (start_of xs ys) ≡ length xs
unfolding start_of ramped_by
length-start xs ys = length-tab _ (length xs)

length-aims : (f : Floor) → length (targets_in f) ≡ point_count f
unfolding targets_in
length-aims f = length-targets (value_at f.xs) (value_at f.ys) f.triangles (point_count f)

pub branch-crossed : (b : Built) (f : Floor) (o : Options) (g : Guidance) (k : ℕ) → Crossed (point_count f) (branch_of b f o g k)
unfolding branch_of
branch-crossed b f o g k =
    crossed-cond (point_count f) (unbounded o.boundary f) _ _ (crossed-faulty (point_count f) (row_at 23 0))
    (crossed-mode o.boundary b (point_count f) _ (targets_in f) (start_of f.xs f.ys) _ k (length-aims f) (length-start f.xs f.ys))

-- for guidance of any length, and any matrices
pub branch-field : (b : Built) (f : Floor) (o : Options) (g : Guidance) (k : ℕ) (alpha : List Float) → branch_of b f o g k ≡ field alpha
    → (length alpha ≡ point_count f) × ((i : ℕ) → i < length alpha → IsCross (get_or alpha i nan))
branch-field b f o g k alpha e = ((branch-crossed b f o g k).as_many alpha e, (branch-crossed b f o g k).range alpha e)
