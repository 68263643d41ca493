-- How a branch ends: the vector that a solve found becomes the angles, or what it refuses by is passed up. Assumes nothing.
use mathlib.Core.Path.{◌≡◌, refl, ap, ◌∙◌}
use mathlib.Core.List.{List}
use Prim.Native.Nat.{ℕ, ◌+◌, ◌*◌, ◌≤◌, ◌<◌}
use native.Mathlib.Omega.{arith}
use lib.Ieee.{Float, nan}
use lib.ListN.{length, get_or}
use Rattle.std.specs.Prelude.{Ok}
use Rattle.complex.specs.declared.Complex.{Complex}
use Rattle.linear_cells.specs.Region.{region, put}
use Rattle.linear_cells.specs.Cell.{flat, region_c}
use Rattle.linear_cells.specs.Spans.{laid}
use Rattle.linear_cells.proofs.Loops.{apart}
use Rattle.linear_cells.proofs.Regions.{length-put, region-put, region-else}
use Rattle.linear_cells.proofs.Changes.{region-one}
use Rattle.linear_cells.proofs.Cells.{length-flat, length-region_c}
use Rattle.linear_hermitian.specs.declared.Hermitian.{Hermitian}
use Rattle.linear_conjugate_gradient.specs.declared.Vectors.{Vectors}
use Rattle.linear_conjugate_gradient.specs.Work.{read, lay, VectorRoom, SolverRoom}
use Rattle.linear_conjugate_gradient.specs.Solve.{State}
use Rattle.linear_conjugate_gradient.proofs.Lays.{Sized, read-sized}
use Rattle.refusals.specs.declared.Refusal.{Refusal}
use Rattle.pass_options.specs.Pass.{Passed, field, faulty, stage_of}
use Rattle.linear_conjugate_gradient.specs.Found.{Found, vector, gave}
use Rattle.pass_solution.specs.Solution.{linear_most}
use Rattle.pass_solution.specs.Work as solution
use Rattle.pass_solution.proofs.Chains.{framed-length, framed-below, found_at}
use Rattle.pass_field.specs.Field.{Angles, angles, endless, field_of}
use Rattle.pass_field.specs.Work.{written, Fields}
use Rattle.pass_field.specs.Work as fields
use Rattle.pass_field.proofs.Angles.{field-cross}
use Rattle.pass_soft.specs.Soft.{System}
use Rattle.pass_soft.proofs.Systems.{below, behind}
use Rattle.pass_systems.specs.Work.{Makes}
use Rattle.pass_branches.specs.declared.solver.BranchPlan.{BranchPlan}
use Rattle.pass_branches.specs.Branches.{after_angles, after_vector, linear}
use Rattle.pass_branches.specs.Work.{Leaves, LeavesLinear}
use Rattle.refusals.specs.Refusal.{Verdict}

-- ---- answers

stage-gave : (f : Found) {s : Verdict} → s ≡ solution.found_stage f → (s ≡ Ok tt → ⊥) → s ≡ stage_of (after_vector f)
unfolding solution.found_stage
stage-gave (vector v) e h = absurd (h e)
stage-gave (gave r i) e h = e

no_field : (f : Found) {s : Verdict} → s ≡ solution.found_stage f → (s ≡ Ok tt → ⊥) → (alpha : List Float) → after_vector f ≡ field alpha → ⊥
unfolding solution.found_stage
no_field (vector v) e h alpha q = h e
no_field (gave r i) e h alpha q = let z : ◌≡◌ {A = ℕ} 0 1 = cc in omega arith

stage-angles : (g : Angles) → fields.angles_stage g ≡ stage_of (after_angles g)
unfolding fields.angles_stage
stage-angles (angles a) = refl
stage-angles endless = refl

-- ---- what lies behind the solver's vectors

framed-behind : (w : List Float) (n : ℕ) (l : Vectors) → VectorRoom (length w) n l → {w₁ : List Float} → solution.Framed w w₁ n l → (c m : ℕ) → l.inverse + n ≤ c → region nan w₁ c m ≡ region nan w c m
framed-behind w n l ok {w₁} e c m k = ap (λ v. region nan v c m) e ∙ go (read w₁ n l) (read-sized w₁ n l)
  where
    go : (s : State) → Sized n s → region nan (lay w n l s) c m ≡ region nan w c m
    go s z = unfold lay laid in
        region-else _ l.x (flat s.x) (length-flat s.x z.x-n) nan c m (apart l.x (2 * n) c m (omega (arith, ok.vectors-in)))
        ∙ region-else _ l.residual (flat s.r) (length-flat s.r z.r-n) nan c m (apart l.residual (2 * n) c m (omega (arith, ok.vectors-in)))
        ∙ region-else _ l.direction (flat s.p) (length-flat s.p z.p-n) nan c m (apart l.direction (2 * n) c m (omega (arith, ok.vectors-in)))
        ∙ region-else _ l.applied (flat s.q) (length-flat s.q z.q-n) nan c m (apart l.applied (2 * n) c m (omega (arith, ok.vectors-in)))
        ∙ region-else w l.inverse s.inverse z.inverse-n nan c m (apart l.inverse n c m (omega arith))

module _ (plan : BranchPlan) where
  abbrev h : Hermitian
  h = plan.system.energy

  abbrev l : Vectors
  l = plan.system.vectors

  abbrev at : ℕ
  at = plan.angles

  -- ---- what came before left these places as they were

  pub leaves_after : {w w₁ w₂ : List Float} {p : Passed} {r : Verdict} → length w₁ ≡ length w
      → ((j : ℕ) → j < at + h.size → get_or w₁ j nan ≡ get_or w j nan) → ((j : ℕ) → j < h.diagonal → j < h.off → get_or w₁ j nan ≡ get_or w j nan)
      → ((j : ℕ) → l.inverse + h.size ≤ j → get_or w₁ j nan ≡ get_or w j nan) → Leaves w₁ w₂ plan p r → Leaves w w₂ plan p r
  leaves_after e low mid past a = record {
    answer = a.answer;
    found = a.found;
    all-reals = a.all-reals ∙ e;
    reals-below = λ j k. a.reals-below j k ∙ low j (omega arith);
    angles-stay = λ x q j b k. a.angles-stay x q j b k ∙ low j k;
    reals-between = λ j b d o. a.reals-between j b d o ∙ mid j d o;
    reals-behind = λ j k. a.reals-behind j k ∙ past j k;
  }

  module _ (w : List Float) (ok : SolverRoom (length w) h l) (below : at + h.size ≤ l.x) {w₁ : List Float} {t : State} {f : Found} {s : Verdict} (a : solution.Answers w w₁ h.size l t f s) where
    abbrev n : ℕ
    n = h.size

    room : VectorRoom (length w) n l
    room = ok.vector-room

    stays : (j : ℕ) → j < l.x → get_or w₁ j nan ≡ get_or w j nan
    stays j k = region-one nan w w₁ j (framed-below w n l room a.frame j 1 (omega arith))

    past : (j : ℕ) → l.inverse + n ≤ j → get_or w₁ j nan ≡ get_or w j nan
    past j k = region-one nan w w₁ j (framed-behind w n l room a.frame j 1 k)

    pub leaves-refused : (s ≡ Ok tt → ⊥) → Leaves w w₁ plan (after_vector f) s
    leaves-refused e = record {
      answer = stage-gave f a.stage e;
      found = λ alpha q. absurd (no_field f a.stage e alpha q);
      all-reals = framed-length w n l a.frame;
      reals-below = λ j k. stays j (omega arith);
      angles-stay = λ x q j b k. stays j (omega arith);
      reals-between = λ j b d o. stays j (omega (arith, ok.diagonal-below));
      reals-behind = past;
    }

    abbrev x : List Complex
    x = region_c w₁ l.x n

    long : length w₁ ≡ length w
    long = framed-length w n l a.frame

    -- what `angles_from` then leaves, of what it found
    angles-left : (g : Angles) → field_of x ≡ g → {w₂ : List Float} {r : Verdict} → w₂ ≡ written w₁ at g → r ≡ fields.angles_stage g → Leaves w w₂ plan (after_angles g) r
    unfolding written
    angles-left (angles v) e {w₂} {r} e₂ er =
        let k : length v ≡ n = (field-cross x v e).as_many ∙ length-region_c w₁ l.x n in
        record {
          answer = er ∙ stage-angles (angles v);
          found = λ alpha q. angles-at v k e₂ alpha q;
          all-reals = ap length e₂ ∙ length-put w₁ at v ∙ long;
          reals-below = λ j b. region-one nan w₁ w₂ j (ap (λ u. region nan u j 1) e₂ ∙ region-else w₁ at v k nan j 1 (apart at n j 1 (omega arith))) ∙ stays j (omega arith);
          angles-stay = λ x q. absurd (none x q);
          reals-between = λ j b d o.
              region-one nan w₁ w₂ j (ap (λ u. region nan u j 1) e₂ ∙ region-else w₁ at v k nan j 1 (apart at n j 1 (omega arith))) ∙ stays j (omega (arith, ok.diagonal-below));
          reals-behind = λ j b. region-one nan w₁ w₂ j (ap (λ u. region nan u j 1) e₂ ∙ region-else w₁ at v k nan j 1 (apart at n j 1 (omega (arith, room.vectors-in)))) ∙ past j b;
        }
      where
        none : (x : Refusal) → after_angles (angles v) ≡ faulty x → ⊥
        none x q = let z : ◌≡◌ {A = ℕ} 0 1 = cc in omega arith

        angles-at : (v : List Float) → length v ≡ n → w₂ ≡ put w₁ at v → (alpha : List Float) → field v ≡ field alpha → region nan w₂ at n ≡ alpha
        angles-at v k e₂ alpha q =
            let z : v ≡ alpha = cc in
            ap (λ u. region nan u at n) e₂ ∙ region-put w₁ at v k nan (omega (arith, long, room.vectors-in)) ∙ z
    angles-left endless e {w₂} {r} e₂ er = record {
      answer = er ∙ stage-angles endless;
      found = λ alpha q. absurd (never alpha q);
      all-reals = ap length e₂ ∙ long;
      reals-below = λ j b. ap (λ u. get_or u j nan) e₂ ∙ stays j (omega arith);
      angles-stay = λ x q j b k. ap (λ u. get_or u j nan) e₂ ∙ stays j (omega arith);
      reals-between = λ j b d o. ap (λ u. get_or u j nan) e₂ ∙ stays j (omega (arith, ok.diagonal-below));
      reals-behind = λ j b. ap (λ u. get_or u j nan) e₂ ∙ past j b;
    }
      where
        never : (alpha : List Float) → after_angles endless ≡ field alpha → ⊥
        never alpha q = let z : ◌≡◌ {A = ℕ} 0 1 = cc in omega arith

    pub leaves-angles : s ≡ Ok tt → {w₂ : List Float} {r : Verdict} → Fields w₁ w₂ l.x at n r → Leaves w w₂ plan (after_vector f) r
    leaves-angles d b = rw (found_at w n l a d) (angles-left (field_of x) refl b.work b.stage)

  -- ---- a system's solution

  module _ (w : List Float) (from to : List ℕ) (ok : SolverRoom (length w) h l × (at + h.size ≤ l.x)) {most : ℕ} (em : most ≡ linear_most h.size plan.outer.iterations)
      {w₁ : List Float} {s : Verdict} (a : solution.Solves w w₁ h l from to most s) where
    solved : solution.Solves w w₁ h l from to (linear_most h.size plan.outer.iterations) s
    solved = rw em at a

    pub linear-refused : (s ≡ Ok tt → ⊥) → LeavesLinear w w₁ plan from to s
    unfolding linear
    linear-refused d = leaves-refused w ok.0 ok.1 solved d

    pub linear-angles : s ≡ Ok tt → {w₂ : List Float} {r : Verdict} → Fields w₁ w₂ l.x at h.size r → LeavesLinear w w₂ plan from to r
    unfolding linear
    linear-angles d b = leaves-angles w ok.0 ok.1 solved d b

  -- ---- a system that was made, and its solution

  pub leaves-made : {len : ℕ} {w w₁ w₂ : List Float} {from to : List ℕ} {x : List Complex} {s : System} {r : Verdict} → SolverRoom len h l
      → at + h.size ≤ h.diagonal → at + h.size ≤ h.off → Makes w w₁ plan.system from to x s → LeavesLinear w₁ w₂ plan from to r
      → Leaves w w₂ plan (linear h.size plan.outer.iterations s) r
  leaves-made {len} {w} {w₁} {w₂} {from} {to} {x} {s} ok d o m a =
      leaves_after m.kept.all (λ j k. first j (omega arith) (omega arith)) first (λ j k. region-one nan w w₁ j (m.kept.else j 1 (behind ok j 1 (omega arith)))) (rw m.system at a)
    where
      first : (j : ℕ) → j < h.diagonal → j < h.off → get_or w₁ j nan ≡ get_or w j nan
      first j p q = region-one nan w w₁ j
          (m.kept.else j 1 (below ok.vector-room j 1 (apart h.diagonal h.size j 1 (omega arith)) (apart h.off (2 * h.edges) j 1 (omega arith)) (omega (arith, ok.diagonal-below))))
