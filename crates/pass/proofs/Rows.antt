-- Rows 19 to 24 in the table's words (`RefusedPass`) are what a pass tests, of a floor as rows 3 to 8 leave it. Assumes nothing.
use Prim.Native.Nat.{ℕ}
use native.Mathlib.Omega.{arith}
use mathlib.Core.Path.{◌≡◌, refl, sym, ap, ◌∙◌, subst}
use mathlib.Core.Bool.{Bool, true, false, cond}
use mathlib.Core.List.{List}
use lib.Dec.{T, eqb}
use lib.ListN.{length}
use lib.Ieee.{lt}
use Rattle.std.specs.Prelude.{Ok, Err}
use Rattle.float.specs.Double.{lit, not_positive}
use Rattle.complex.specs.declared.Complex.{Complex}
use Rattle.mesh.specs.Mesh.{All, Distinct}
use Rattle.mesh.proofs.Whole.{all-distinct}
use Rattle.float.proofs.Within.{and_both}
use Rattle.floor.specs.Floor.{Floor, point_count}
use Rattle.linear_conjugate_gradient.specs.Found.{Found, vector, gave}
use Rattle.pass_field.specs.Field.{Angles, angles, endless, field_of}
use Rattle.refusals.specs.declared.Refusal.{Refusal}
use Rattle.refusals.specs.Refusal.{row_at, gave_up}
use Rattle.pass_soft.specs.Soft.{Term, System}
use Rattle.pass_options.specs.declared.Options.{Options}
use Rattle.pass_options.specs.declared.BoundaryMode.{BoundaryMode}
use Rattle.pass_options.specs.declared.BoundaryMode.TheVariants.{None, Tangent, Weak}
use Rattle.pass_options.specs.Options.{Guidance}
use Rattle.pass_options.specs.Pass.{Passed, faulty}
use Rattle.pass_boundary.specs.Boundary.{boundary_sides}
use Rattle.pass_setup.specs.Setup.{setup_of, Setup}
use Rattle.pass_setup.specs.Rows.{SoundFloor, RefusedFloor, AcceptedFloor}
use Rattle.pass_setup.proofs.Floors.{setup-good}
use Rattle.pass_setup.proofs.Triangles.{Tests, passed, failed}
use Rattle.pass_setup.proofs.Rows.{setup-rows, accepted-setup, setup-accepted}
use Rattle.pass_solution.specs.Solution.{solution_of, linear_most}
use Rattle.pass_inverse_iteration.specs.Inverse.{inverse_of}
use Rattle.pass_systems.specs.Systems.{soft_system, weak_system, tangent_system}
use Rattle.pass_branches.specs.Branches.{Built, no_terms, acts, unbounded, after_angles, after_vector, linear, free, by_mode, searched, branch_of}
use Rattle.pass_branches.proofs.Bounded.{no-boundary, boundary-none}
use Rattle.pass.specs.Pass.{traces_in, built_of, field_over, after_setup, pass_of}
use Rattle.pass.proofs.Reasons.{Reasoned, solution-reasoned, inverse-reasoned}
use Rattle.pass.specs.Rows.{Row23, SolverReason, RefusedPass, by-floor, by-energy, by-mass, by-23, by-solver, PassRows}

-- ---- the solver's refusals are row 24's

-- where p is refused, then by row 24
abbrev GivesUp : Passed → Type 0
GivesUp p = (x : Refusal) → p ≡ faulty x → (reason : ℕ) × ((place : ℕ) × ((x ≡ gave_up reason place) × SolverReason reason place))

angles-up : (g : Angles) → GivesUp (after_angles g)
angles-up (angles a) x e = let z : ◌≡◌ {A = ℕ} 0 1 = cc in absurd (omega arith)
angles-up endless x e = (13, (0, (cc, record { from = omega arith; to = omega arith; no_place = λ n. refl })))

vector-up : (v : Found) → Reasoned v → GivesUp (after_vector v)
vector-up (vector v) h x e = angles-up (field_of v) x e
vector-up (gave r i) h x e = (r, (i, (cc, h.by r i refl)))

cond_up : (b : Bool) (p q : Passed) → GivesUp p → GivesUp q → GivesUp (cond b p q)
cond_up true p q h g = h
cond_up false p q h g = g

linear-up : (n k : ℕ) (s : System) → GivesUp (linear n k s)
unfolding linear
linear-up n k s = vector-up (solution_of s.matrix (linear_most n k) s.rhs) (solution-reasoned s.matrix (linear_most n k) s.rhs)

free_up : (b : Built) (n : ℕ) (start : List Complex) (terms : List Term) (k : ℕ) → GivesUp (free b n start terms k)
unfolding free
free_up b n start terms k =
    cond_up (no_terms terms) _ _ (vector-up (inverse_of b.mass b.energy b.trace k start) (inverse-reasoned b.mass b.energy b.trace k start)) (linear-up n k (soft_system b.mass b.energy terms n))

mode-up : (mode : BoundaryMode) (b : Built) (n : ℕ) (flags : List ℕ) (targets start : List Complex) (terms : List Term) (k : ℕ) → GivesUp (by_mode mode b n flags targets start terms k)
mode-up None b n flags targets start terms k = free_up b n start terms k
mode-up Tangent b n flags targets start terms k = linear-up n k (tangent_system flags targets b.mass b.energy terms n)
mode-up (Weak w) b n flags targets start terms k = cond_up (lt (lit 0) w) _ _ (linear-up n k (weak_system w flags targets b.mass b.energy terms)) (free_up b n start terms k)

-- ---- row 23

tests-23 : (o : Options) (f : Floor) → All Distinct f.triangles → Tests (unbounded o.boundary f) (Row23 o f)
unfolding unbounded
tests-23 o f d = (
  λ h. let z = and_both (acts o.boundary) (eqb (length (boundary_sides f.triangles)) 0) h in (z.0, no-boundary f.triangles d z.1),
  λ r. rw r.0 (boundary-none f.triangles d r.1),
)

-- ---- the pass

module _ (f : Floor) (o : Options) (g : Guidance) (k : ℕ) (ok : SoundFloor f) where
  abbrev search : Passed
  search = searched (built_of o f) f o g k

  module _ (a : AcceptedFloor f) where
    is-distinct : All Distinct f.triangles
    is-distinct = all-distinct (point_count f) f.triangles (setup-good f (accepted-setup f ok a) ok.corners).0

    after : (e m u : Bool) → not_positive (traces_in o f).energy ≡ e → not_positive (traces_in o f).mass ≡ m → unbounded o.boundary f ≡ u
        → pass_of f o g k ≡ cond e (faulty (gave_up 1 0)) (cond m (faulty (gave_up 2 0)) (cond u (faulty (row_at 23 0)) search))
    unfolding pass_of field_over branch_of
    after e m u p q r = rw (accepted-setup f ok a, p, q, r)

  to-pass : (x : Refusal) → RefusedPass f o g k x → pass_of f o g k ≡ faulty x
  to-pass x (by-floor r) = unfold pass_of in ap (λ (s : Setup). after_setup s (field_over f o g k)) ((setup-rows f ok x).1 r)
  to-pass x (by-energy a p e) = after a true _ _ p refl refl ∙ ap faulty (sym e)
  to-pass x (by-mass a n p e) = after a false true _ (failed (λ z. z, λ z. z) n) p refl ∙ ap faulty (sym e)
  to-pass x (by-23 t r e) = after t.floor false false true (failed (λ z. z, λ z. z) t.energy) (failed (λ z. z, λ z. z) t.mass) ((tests-23 o f (is-distinct t.floor)).1 r) ∙ ap faulty (sym e)
  to-pass x (by-solver s r i q h e) =
      let t = s.traced in
      after t.floor false false false (failed (λ z. z, λ z. z) t.energy) (failed (λ z. z, λ z. z) t.mass) (failed (tests-23 o f (is-distinct t.floor)) s.bounded) ∙ h ∙ ap faulty (sym e)

  same : {x y : Refusal} → faulty x ≡ faulty y → y ≡ x
  same e = cc

  from-pass : (x : Refusal) → pass_of f o g k ≡ faulty x → RefusedPass f o g k x
  from-pass x h = set-up (setup_of f) refl
    where
      no : {b : Bool} → b ≡ false → ¬ (b ≡ true)
      no e z = absurd (subst T (sym z ∙ e) tt)

      traces : (a : AcceptedFloor f) (e m u : Bool) → not_positive (traces_in o f).energy ≡ e → not_positive (traces_in o f).mass ≡ m → unbounded o.boundary f ≡ u
          → cond e (faulty (gave_up 1 0)) (cond m (faulty (gave_up 2 0)) (cond u (faulty (row_at 23 0)) (searched (built_of o f) f o g k))) ≡ faulty x → RefusedPass f o g k x
      traces a true m u p q r z = by-energy a p (same z)
      traces a false true u p q r z = by-mass a (no p) q (same z)
      traces a false false true p q r z = by-23 (record { floor = a; energy = no p; mass = no q }) ((tests-23 o f (is-distinct a)).0 r) (same z)
      traces a false false false p q r z =
          let w = mode-up o.boundary (built_of o f) _ _ _ _ _ k x z in
          by-solver (record { traced = record { floor = a; energy = no p; mass = no q }; bounded = passed (tests-23 o f (is-distinct a)) r }) w.0 w.1.0 w.1.1.1 (z ∙ ap faulty w.1.1.0) w.1.1.0

      set-up : (s : Setup) → setup_of f ≡ s → RefusedPass f o g k x
      set-up (Err y) e = let z : faulty y ≡ faulty x = sym (to-pass y (by-floor ((setup-rows f ok y).0 e))) ∙ h in by-floor (subst (RefusedFloor f) (sym (same z)) ((setup-rows f ok y).0 e))
      set-up (Ok m) e =
          let a = setup-accepted f ok m e in
          traces a _ _ _ refl refl refl (sym (after a _ _ _ refl refl refl) ∙ h)

  pub pass-rows : PassRows f o g k
  pass-rows = record { exactly = λ x. (from-pass x, to-pass x) }
