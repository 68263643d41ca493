-- What a stage's answer says of the pass, what lies before a base that was kept, and the angle slices by what was found. Assumes nothing.
use Prim.Native.Nat.{ℕ, ◌+◌, ◌<◌}
use native.Mathlib.Omega.{arith}
use mathlib.Core.Path.{◌≡◌, refl}
use mathlib.Core.Bool.{Bool, true, false, ◌&&◌}
use mathlib.Core.List.{List}
use lib.ListN.{get_or}
use lib.Ieee.{Float, nan}
use Rattle.std.specs.Prelude.{Ok, Err, Option, Some, None}
use Rattle.linear_cells.specs.Region.{region}
use Rattle.linear_cells.proofs.Loops.{tab-ext}
use Rattle.refusals.specs.declared.Refusal.{Refusal}
use Rattle.pass_options.specs.Pass.{Passed, field, faulty, stage_of}
use Rattle.calls.specs.declared.Counts.{Counts}
use Rattle.solve.specs.Passes.{first_in, Finished, outcome_of, coarse_left, fine_left, Found}
use Rattle.calls.specs.Checks.{Outcome}

pub both_true : (a b : Bool) → (a && b) ≡ true → a ≡ true
both_true true b e = refl
both_true false b e = e

pub stage-faulty : (p : Passed) (x : Refusal) → Err x ≡ stage_of p → p ≡ faulty x
stage-faulty (faulty y) x e = cc
stage-faulty (field alpha) x e = let z : ◌≡◌ {A = ℕ} 0 1 = cc in absurd (omega arith)

pub stage-field : (p : Passed) → (Ok tt) ≡ stage_of p → (alpha : List Float) × (p ≡ field alpha)
stage-field (field alpha) e = (alpha, refl)
stage-field (faulty x) e = let z : ◌≡◌ {A = ℕ} 0 1 = cc in absurd (omega arith)

-- the front that lies before a base stays
pub front-stays : (n : ℕ) (w w' : List Float) → ((j : ℕ) → j < n → get_or w' j nan ≡ get_or w j nan) → first_in n w' ≡ first_in n w
unfolding region
front-stays n w w' h = tab-ext _ _ n (λ i g. h (0 + i) (omega arith))

-- where no second field was found, there is none
pub no-second : {f : Option Counts} → ((x : Counts) → f ≡ Some x → ⊥) → f ≡ None
no-second {f = None} h = refl
no-second {f = Some x} h = absurd (h x refl)

-- by what was found, f
pub finished_as : {found : Found} (f : Found) → found ≡ f → {n : ℕ} {w coarse fine coarse' fine' : List Float} {r : Outcome} → r ≡ outcome_of f
    → coarse' ≡ coarse_left f n w coarse → fine' ≡ fine_left f n w fine → Finished found n w coarse fine coarse' fine' r
finished_as f e told left-coarse left-fine = rw e (record { outcome = told; coarse-left = left-coarse; fine-left = left-fine })
