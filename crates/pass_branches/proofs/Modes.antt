-- Each branch by its boundary mode and its soft terms, from what its calls ensure. Assumes nothing.
use mathlib.Core.Path.{◌≡◌, refl, sym, subst, ◌∙◌}
use mathlib.Core.Bool.{Bool, true, false, not, cond, ◌&&◌}
use mathlib.Core.List.{List, [], ◌∷◌, ◌++◌}
use Prim.Native.Nat.{ℕ, ◌+◌, ◌≤◌}
use native.Mathlib.Omega.{arith}
use lib.Ieee.{Float, lt}
use Rattle.float.specs.Double.{lit}
use Rattle.complex.specs.declared.Complex.{Complex}
use Rattle.linear_hermitian.specs.declared.Hermitian.{Hermitian}
use Rattle.linear_conjugate_gradient.specs.declared.Vectors.{Vectors}
use Rattle.pass_inverse_iteration.specs.declared.Outer.{Outer}
use Rattle.pass_inverse_iteration.specs.Work.{PencilRoom}
use Rattle.pass_soft.specs.declared.Terms.{Terms}
use Rattle.pass_soft.specs.Soft.{Term, System, term_of}
use Rattle.pass_soft.specs.Work.{terms_in}
use Rattle.pass_systems.specs.Work.{Makes}
use Rattle.pass_options.specs.declared.BoundaryMode.{BoundaryMode}
use Rattle.pass_options.specs.declared.BoundaryMode.TheVariants.{None, Tangent, Weak}
use Rattle.pass_branches.specs.declared.solver.BranchPlan.{BranchPlan}
use Rattle.pass_branches.specs.Branches.{no_terms, linear, free}
use Rattle.pass_branches.specs.Work.{Leaves, pencil_at, BranchRoom, none_acts, LeavesLinear, LeavesSoft, LeavesVector, LeavesFree, LeavesWeak, LeavesTangent, LeavesBy}
use Rattle.pass_branches.proofs.Ends.{leaves-made}
use Rattle.refusals.specs.Refusal.{Verdict}

-- ---- whether a soft term acts

none_is : (w : List Float) (h : Hermitian) (t : Terms) → none_acts t ≡ no_terms (terms_in w h t)
unfolding none_acts term_of
none_is w h t = go _ _ t.guided (lt (lit 0) t.weight) (lt (lit 0) t.alignment)
  where
    go : (x y : Term) (g b a : Bool) → (not a && not (g && b)) ≡ no_terms (cond g (cond b (x ∷ []) []) [] ++ cond a (y ∷ []) [])
    go x y true true true = refl
    go x y true true false = refl
    go x y true false true = refl
    go x y true false false = refl
    go x y false true true = refl
    go x y false true false = refl
    go x y false false true = refl
    go x y false false false = refl

module _ (t : Terms) where
  pub aligned-acts : lt (lit 0) t.alignment ≡ true → false ≡ none_acts t
  unfolding none_acts
  aligned-acts a = rw a

  pub guided-acts : lt (lit 0) t.alignment ≡ false → t.guided ≡ true → not (lt (lit 0) t.weight) ≡ none_acts t
  unfolding none_acts
  guided-acts a g = rw (a, g)

  pub neither-acts : lt (lit 0) t.alignment ≡ false → t.guided ≡ false → true ≡ none_acts t
  unfolding none_acts
  neither-acts a g = rw (a, g)

module _ (plan : BranchPlan) where
  abbrev h : Hermitian
  h = plan.system.energy

  abbrev l : Vectors
  l = plan.system.vectors

  abbrev at : ℕ
  at = plan.angles

  abbrev t : Terms
  t = plan.system.terms

  abbrev o : Outer
  o = plan.outer

  -- ---- room

  module _ {len : ℕ} (ok : BranchRoom len plan) where
    pub below : at + h.size ≤ l.x
    below = omega (arith, ok.angles-below, ok.system-room.soft-room.h-room.diagonal-below)

    -- a slice as long has the same room
    pub same_branch : {len' : ℕ} → len' ≡ len → BranchRoom len' plan
    same_branch e = rw e ok

    pub pencil-room : PencilRoom len (pencil_at plan)
    pencil-room = let s = ok.system-room.soft-room in record { one_size = s.shift-room.one_size; mass-room = s.mass-room; energy-room = s.h-room }

    pub leaves-system : {w w₁ w₂ : List Float} {from to : List ℕ} {x : List Complex} {s : System} {r : Verdict} → Makes w w₁ plan.system from to x s → LeavesLinear w₁ w₂ plan from to r
        → Leaves w w₂ plan (linear h.size o.iterations s) r
    leaves-system m a = leaves-made plan ok.system-room.soft-room.h-room ok.angles-below ok.angles-below-off m a

  -- ---- the soft terms

  module _ (w w₁ : List Float) (from to : List ℕ) {r : Verdict} {b : Bool} (eb : b ≡ none_acts t) where
    pub free_vector : b ≡ true → LeavesVector w w₁ plan from to r → LeavesFree w w₁ plan from to r
    unfolding free
    free_vector e a = let q : no_terms (terms_in w h t) ≡ true = sym (none_is w h t) ∙ sym eb ∙ e in rw q a

    pub free-soft : b ≡ false → LeavesSoft w w₁ plan from to r → LeavesFree w w₁ plan from to r
    unfolding free
    free-soft e a = let q : no_terms (terms_in w h t) ≡ false = sym (none_is w h t) ∙ sym eb ∙ e in rw q a

  -- ---- the mode

  module _ (mode : BoundaryMode) (w w₁ : List Float) (flags from to : List ℕ) {r : Verdict} where
    pub by-none : mode ≡ None → LeavesFree w w₁ plan from to r → LeavesBy mode w w₁ plan flags from to r
    by-none e a = subst (λ (k : BoundaryMode). LeavesBy k w w₁ plan flags from to r) (sym e) a

    pub by-tangent : mode ≡ Tangent → LeavesTangent w w₁ plan flags from to r → LeavesBy mode w w₁ plan flags from to r
    by-tangent e a = subst (λ (k : BoundaryMode). LeavesBy k w w₁ plan flags from to r) (sym e) a

    module _ {weight : Float} (e : mode ≡ Weak weight) where
      pub by_weak : lt (lit 0) weight ≡ true → LeavesWeak w w₁ plan weight flags from to r → LeavesBy mode w w₁ plan flags from to r
      by_weak q a = subst (λ (k : BoundaryMode). LeavesBy k w w₁ plan flags from to r) (sym e) (rw q a)

      pub by-idle : lt (lit 0) weight ≡ false → LeavesFree w w₁ plan from to r → LeavesBy mode w w₁ plan flags from to r
      by-idle q a = subst (λ (k : BoundaryMode). LeavesBy k w w₁ plan flags from to r) (sym e) (rw q a)
