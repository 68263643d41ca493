-- What holds of every accepted pass: three different corners in each triangle, as many angles as points, each in [0, FRAC_PI_2). Assumes nothing.
use Prim.Native.Nat.{ℕ}
use native.Mathlib.Omega.{arith}
use mathlib.Core.Path.{◌≡◌, refl}
use mathlib.Core.Bool.{Bool, true, false, cond}
use mathlib.Core.List.{List}
use lib.Ieee.{Float}
use Rattle.std.specs.Prelude.{Ok, Err}
use Rattle.mesh.proofs.Whole.{all-distinct}
use Rattle.floor.specs.Floor.{Floor, point_count}
use Rattle.float.specs.Double.{not_positive}
use Rattle.pass_assembly.specs.declared.shift.Traces.{Traces}
use Rattle.refusals.specs.Refusal.{gave_up}
use Rattle.pass_options.specs.declared.Options.{Options}
use Rattle.pass_options.specs.Options.{Guidance}
use Rattle.pass_options.specs.Pass.{Passed, field, faulty, PassFacts}
use Rattle.pass_setup.specs.Setup.{setup_of, Setup}
use Rattle.pass_setup.proofs.Floors.{setup-good}
use Rattle.pass_branches.specs.Branches.{branch_of}
use Rattle.pass_branches.proofs.Fields.{branch-field}
use Rattle.pass.specs.Pass.{traces_in, built_of, after_traces, after_setup, field_over, pass_of}

-- an accepted pass had its floor set up, and its traces passed
set-up : (s : Setup) (next : Passed) (alpha : List Float) → after_setup s next ≡ field alpha → ((m : ℕ) × (s ≡ Ok m)) × (next ≡ field alpha)
set-up (Ok m) next alpha e = ((m, refl), e)
set-up (Err x) next alpha e = let z : ◌≡◌ {A = ℕ} 0 1 = cc in absurd (omega arith)

traced : (t : Traces) (next : Passed) (alpha : List Float) → after_traces t next ≡ field alpha → next ≡ field alpha
traced t next alpha = go (not_positive t.energy) (not_positive t.mass)
  where
    go : (b c : Bool) → cond b (faulty (gave_up 1 0)) (cond c (faulty (gave_up 2 0)) next) ≡ field alpha → next ≡ field alpha
    go true c e = let z : ◌≡◌ {A = ℕ} 0 1 = cc in absurd (omega arith)
    go false true e = let z : ◌≡◌ {A = ℕ} 0 1 = cc in absurd (omega arith)
    go false false e = e

module _ (f : Floor) (o : Options) (g : Guidance) (k : ℕ) (alpha : List Float) (e : pass_of f o g k ≡ field alpha) where
  pub was-set-up : ((m : ℕ) × (setup_of f ≡ Ok m)) × (field_over f o g k ≡ field alpha)
  unfolding pass_of
  was-set-up = set-up (setup_of f) (field_over f o g k) alpha e

  by-branch : branch_of (built_of o f) f o g k ≡ field alpha
  unfolding field_over
  by-branch = traced (traces_in o f) _ alpha was-set-up.1

pub pass-facts : PassFacts pass_of
pass-facts = record {
  three-corners = λ f o g k alpha h e. all-distinct (point_count f) f.triangles (setup-good f (was-set-up f o g k alpha e).0.1 h).0;
  as_many = λ f o g k alpha e. (branch-field (built_of o f) f o g k alpha (by-branch f o g k alpha e)).0;
  range = λ f o g k alpha e. (branch-field (built_of o f) f o g k alpha (by-branch f o g k alpha e)).1;
}
