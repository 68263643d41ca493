-- The rest of a pass, once its floor is set up: it refuses by the traces, or finds what the branch finds over the floor's own matrices. Assumes nothing.
use Prim.Native.Nat.{ℕ, ◌+◌, ◌≤◌, ◌<◌}
use native.Mathlib.Omega.{arith}
use mathlib.Core.Path.{◌≡◌, refl, sym, ap, ◌∙◌, subst}
use mathlib.Core.Logic.{◌⊎◌, inl, inr}
use mathlib.Core.Bool.{Bool, true, false, cond}
use mathlib.Core.List.{List}
use lib.ListN.{length, get_or}
use lib.Ieee.{Float, nan}
use Rattle.std.specs.Prelude.{Ok, Err}
use Rattle.linear_cells.proofs.Regions.{length-put}
use Rattle.linear_cells.proofs.Cells.{length-put_c}
use Rattle.linear_hermitian.specs.Work.{shift_matrix, ShiftRoom}
use Rattle.float.specs.Double.{not_positive}
use Rattle.refusals.specs.declared.Refusal.{Refusal}
use Rattle.refusals.specs.Refusal.{gave_up, Verdict}
use Rattle.pass_assembly.specs.declared.shift.Traces.{Traces}
use Rattle.pass_assembly.specs.Shift.{shift_of}
use Rattle.pass_assembly.specs.Work.{traces_stage}
use Rattle.pass_options.specs.declared.Options.{Options}
use Rattle.pass_options.specs.Pass.{Passed, faulty, stage_of}
use Rattle.pass_layout.specs.declared.Layout.{Layout}
use Rattle.pass_layout.specs.Layout.{Ordered}
use Rattle.pass_layout.specs.Matrices.{mass_at, energy_at}
use Rattle.pass_layout.specs.Work.{floor_in, guidance_in}
use Rattle.pass_layout.proofs.Regions.{floor-stays}
use Rattle.pass_setup.specs.Work.{Stands}
use Rattle.pass_branches.specs.declared.Search.{Search}
use Rattle.pass_branches.specs.Branches.{branch_of}
use Rattle.pass_branches.specs.Work.{built_in, sought_in, Finds}
use Rattle.pass.specs.declared.Asked.{Asked}
use Rattle.pass.specs.Pass.{mode_of, traces_in, built_of, after_traces, field_over}
use Rattle.pass.specs.Work.{guidance_at, field_in, Builds}
use Rattle.pass.proofs.Below.{region-below}
use Rattle.pass.proofs.Matrices.{shift-room, built-length, built-below, built-behind, traces-built, shifted-below, shifted_behind, matrices-built}

-- ---- two slices of each kind that agree before `reals` and `words`, and behind the regions of a pass

pub record Alike (l : Layout) (reals words : ℕ) (w w₁ : List Float) (u u₁ : List ℕ) : Type 0 where
  pub all-reals : length w₁ ≡ length w
  pub all_words : length u₁ ≡ length u
  pub reals-below : (j : ℕ) → j < reals → get_or w₁ j nan ≡ get_or w j nan
  pub reals-behind : (j : ℕ) → l.inverse + l.points ≤ j → get_or w₁ j nan ≡ get_or w j nan
  pub words-below : (j : ℕ) → j < words → get_or u₁ j 0 ≡ get_or u j 0
  pub words-behind : (j : ℕ) → l.marks + l.points ≤ j → get_or u₁ j 0 ≡ get_or u j 0

-- what was found from the ones, with more kept, was found from the others too
pub finds-from : (l : Layout) {reals reals₁ words words₁ : ℕ} → l.angles + l.points ≤ reals → reals ≤ reals₁ → words ≤ words₁ → (p q : Passed) (w w₁ : List Float) (u u₁ : List ℕ)
    {w₂ : List Float} {u₂ : List ℕ} {r : Verdict} → p ≡ q → Alike l reals words w w₁ u u₁ → Finds l reals₁ words₁ p w₁ u₁ w₂ u₂ r → Finds l reals words q w u w₂ u₂ r
finds-from l ra rr ww p q w w₁ u u₁ e s f = record {
  answer = f.answer ∙ ap stage_of e;
  found = λ alpha h. f.found alpha (e ∙ h);
  all-reals = f.all-reals ∙ s.all-reals;
  all_words = f.all_words ∙ s.all_words;
  reals-below = λ j h. f.reals-below j h ∙ s.reals-below j (omega arith);
  angles-stay = λ x h j g k. f.angles-stay x (e ∙ h) j g k ∙ s.reals-below j (omega arith);
  reals-between = λ j g h. f.reals-between j g (omega arith) ∙ s.reals-below j h;
  reals-behind = λ j h. f.reals-behind j h ∙ s.reals-behind j h;
  words-below = λ j h. f.words-below j (omega arith) ∙ s.words-below j h;
  words-behind = λ j h. f.words-behind j h ∙ s.words-behind j h;
}

-- a refusal
pub refusal-found : (l : Layout) {reals words : ℕ} → l.angles + l.points ≤ reals → (p : Passed) (x : Refusal) (w w₁ : List Float) (u u₁ : List ℕ) → p ≡ faulty x → Alike l reals words w w₁ u u₁
    → Finds l reals words p w u w₁ u₁ (Err x)
refusal-found l ra p x w w₁ u u₁ e s = record {
  answer = sym (ap stage_of e);
  found = λ alpha h. let z : ◌≡◌ {A = ℕ} 0 1 = cc in absurd (omega arith);
  all-reals = s.all-reals;
  all_words = s.all_words;
  reals-below = λ j h. s.reals-below j (omega arith);
  angles-stay = λ y h j g k. s.reals-below j (omega arith);
  reals-between = λ j g h. s.reals-below j h;
  reals-behind = s.reals-behind;
  words-below = s.words-below;
  words-behind = s.words-behind;
}

-- ---- by the traces

traces-cases : (t : Traces) (next : Passed) → ((traces_stage t ≡ Ok tt) × (after_traces t next ≡ next)) ⊎ ((x : Refusal) × (traces_stage t ≡ Err x) × (after_traces t next ≡ faulty x))
unfolding traces_stage
traces-cases t next = go (not_positive t.energy) (not_positive t.mass)
  where
    go : (e m : Bool) → (◌≡◌ {A = Verdict} (cond e (Err (gave_up 1 0)) (cond m (Err (gave_up 2 0)) (Ok tt))) (Ok tt) × (cond e (faulty (gave_up 1 0)) (cond m (faulty (gave_up 2 0)) next) ≡ next)) ⊎
        ((x : Refusal) × ◌≡◌ {A = Verdict} (cond e (Err (gave_up 1 0)) (cond m (Err (gave_up 2 0)) (Ok tt))) (Err x) × (cond e (faulty (gave_up 1 0)) (cond m (faulty (gave_up 2 0)) next) ≡ faulty x))
    go true m = inr (gave_up 1 0, refl, refl)
    go false true = inr (gave_up 2 0, refl, refl)
    go false false = inl (refl, refl)

pub traces-done : (t : Traces) (next : Passed) → traces_stage t ≡ Ok tt → after_traces t next ≡ next
traces-done t next d = go (traces-cases t next)
  where
    go : ((traces_stage t ≡ Ok tt) × (after_traces t next ≡ next)) ⊎ ((x : Refusal) × (traces_stage t ≡ Err x) × (after_traces t next ≡ faulty x)) → after_traces t next ≡ next
    go (inl (a, b)) = b
    go (inr (x, a, b)) = let z : ◌≡◌ {A = ℕ} 0 1 = cc in absurd (omega arith)

pub traces-refused : (t : Traces) (next : Passed) (x : Refusal) → traces_stage t ≡ Err x → after_traces t next ≡ faulty x
traces-refused t next x d = go (traces-cases t next)
  where
    go : ((traces_stage t ≡ Ok tt) × (after_traces t next ≡ next)) ⊎ ((y : Refusal) × (traces_stage t ≡ Err y) × (after_traces t next ≡ faulty y)) → after_traces t next ≡ faulty x
    go (inl (a, b)) = let z : ◌≡◌ {A = ℕ} 0 1 = cc in absurd (omega arith)
    go (inr (y, a, b)) = cc

-- ---- all of it

module _ (l : Layout) (m : ℕ) (w : List Float) (u : List ℕ) (o : Options) (a : Asked) (ok : Ordered l (length w) (length u)) (s : Stands l m (floor_in l w u) w u)
    (w₁ : List Float) (t : Traces) (b : Builds l m (mode_of o) w u w₁ t) where
  same-traces : t ≡ traces_in o (floor_in l w u)
  same-traces = traces-built l m w u o ok s t (rw b.work at b.traces)

  work-length : length w₁ ≡ length w
  work-length = ap length b.work ∙ built-length l m w u o ok s

  alike : Alike l l.mass l.table w w₁ u u
  alike = record {
    all-reals = work-length;
    all_words = refl;
    reals-below = λ j h. ap (λ (v : List Float). get_or v j nan) b.work ∙ built-below l m w u o ok s j h;
    reals-behind = λ j h. ap (λ (v : List Float). get_or v j nan) b.work ∙ built-behind l m w u o ok s j (omega arith);
    words-below = λ j h. refl;
    words-behind = λ j h. refl;
  }

  pub shift_fits : ShiftRoom (length w₁) (energy_at l m) (mass_at l m)
  shift_fits = subst (λ (k : ℕ). ShiftRoom k (energy_at l m) (mass_at l m)) (sym work-length) (shift-room l m ok s.edged.few)

  pub rest-refused : (r : Verdict) (x : Refusal) → r ≡ traces_stage t → r ≡ Err x → Finds l l.mass l.table (field_in l o a w u) w u w₁ u r
  unfolding field_in field_over
  rest-refused r x e d =
      subst (λ (z : Verdict). Finds l l.mass l.table (field_in l o a w u) w u w₁ u z) (sym d)
      (refusal-found l (omega arith) (field_in l o a w u) x w w₁ u u
      (ap (λ (z : Traces). after_traces z (branch_of (built_of o (floor_in l w u)) (floor_in l w u) o (guidance_at l a w) a.iterations)) (sym same-traces) ∙ traces-refused t _ x (sym e ∙ d))
      alike)

  module _ (r : Verdict) (e : r ≡ traces_stage t) (d : r ≡ Ok tt) (w₂ : List Float) (shifted : w₂ ≡ shift_matrix w₁ (energy_at l m) (shift_of t) (mass_at l m)) where
    abbrev search : Search
    search = record { guided = a.guided; weight = a.weight; trace = t.energy; iterations = a.iterations }

    -- the slices agree before the matrices
    same-below : (j : ℕ) → j < l.mass → get_or w₂ j nan ≡ get_or w j nan
    same-below j h =
        ap (λ (v : List Float). get_or v j nan) (shifted ∙ ap (λ (v : List Float). shift_matrix v (energy_at l m) (shift_of t) (mass_at l m)) b.work)
        ∙ shifted-below l m w u o ok s t (rw b.work at b.traces) j h

    same-behind : (j : ℕ) → l.packed ≤ j → get_or w₂ j nan ≡ get_or w j nan
    same-behind j h =
        ap (λ (v : List Float). get_or v j nan) (shifted ∙ ap (λ (v : List Float). shift_matrix v (energy_at l m) (shift_of t) (mass_at l m)) b.work)
        ∙ shifted_behind l m w u o ok s t (rw b.work at b.traces) j h

    shifted-length : length w₂ ≡ length w
    unfolding shift_matrix
    shifted-length = ap length shifted ∙ length-put_c _ _ _ ∙ length-put _ _ _ ∙ work-length

    same-floor : floor_in l w₂ u ≡ floor_in l w u
    same-floor = floor-stays l ok w w₂ u u (λ j h. same-below j (omega arith)) (λ j h. refl)

    same-guidance : guidance_in l w₂ ≡ guidance_in l w
    same-guidance = region-below nan l.mass w w₂ same-below l.guidance l.points (omega arith)

    same-built : built_in l m t.energy w₂ u ≡ built_of o (floor_in l w u)
    same-built =
        ap (λ (v : List Float). built_in l m t.energy v u) (shifted ∙ ap (λ (v : List Float). shift_matrix v (energy_at l m) (shift_of t) (mass_at l m)) b.work)
        ∙ matrices-built l m w u o ok s t (rw b.work at b.traces)

    same-field : sought_in l m o search w₂ u ≡ field_in l o a w u
    unfolding sought_in field_in field_over
    same-field =
        rw (same-built, same-floor, same-guidance)
        (sym (traces-done t _ (sym e ∙ d)) ∙ ap (λ (z : Traces). after_traces z (branch_of (built_of o (floor_in l w u)) (floor_in l w u) o (guidance_at l a w) a.iterations)) same-traces)

    pub ordered-then : Ordered l (length w₂) (length u)
    ordered-then = subst (λ (k : ℕ). Ordered l k (length u)) (sym shifted-length) ok

    pub rest-found : {w₃ : List Float} {u₃ : List ℕ} {q : Verdict} → Finds l l.energy l.table (sought_in l m o search w₂ u) w₂ u w₃ u₃ q
        → Finds l l.mass l.table (field_in l o a w u) w u w₃ u₃ q
    rest-found f = finds-from l (omega arith) (omega arith) (omega arith) _ _ w w₂ u u same-field (record {
      all-reals = shifted-length;
      all_words = refl;
      reals-below = same-below;
      reals-behind = λ j h. same-behind j (omega arith);
      words-below = λ j h. refl;
      words-behind = λ j h. refl;
    }) f
