-- Rows 19 to 24 of document 01's table, in its words, of one pass over a floor as rows 3 to 8 leave it. A pass is refused by one of them exactly if it
-- holds and no earlier one does: `pass-rows` in proofs/Rows. Rows 19 to 22 are those of crate pass_setup. Definitions only.
use Rattle.std.specs.Prelude.{ℕ, ◌≤◌, ◌≡◌, ◌≢◌, ◌↔◌, true}
use Rattle.float.specs.Double.{not_positive}
use Rattle.mesh.specs.Mesh.{count}
use Rattle.floor.specs.Floor.{Floor}
use Rattle.refusals.specs.declared.Refusal.{Refusal}
use Rattle.refusals.specs.Refusal.{row_at, gave_up}
use Rattle.pass_options.specs.declared.Options.{Options}
use Rattle.pass_options.specs.Options.{Guidance}
use Rattle.pass_options.specs.Pass.{faulty}
use Rattle.pass_setup.specs.Rows.{RefusedFloor, AcceptedFloor}
use Rattle.pass_branches.specs.Branches.{acts, searched}
use Rattle.pass.specs.Pass.{traces_in, built_of, pass_of}

-- row 24's reasons 1 and 2, "energy trace" and "mass trace (both before row 23)": it is not finite or not positive
abbrev pub BadEnergy : Options → Floor → Type 0
BadEnergy o f = not_positive (traces_in o f).energy ≡ true

abbrev pub BadMass : Options → Floor → Type 0
BadMass o f = not_positive (traces_in o f).mass ≡ true

-- row 23: "boundary mode acts, no side lies in exactly one triangle"
abbrev pub Row23 : Options → Floor → Type 0
Row23 o f = (acts o.boundary ≡ true) × ((u v : ℕ) → u ≢ v → count u v f.triangles ≢ 1)

-- nothing was refused before row 23, and before the system of equations is solved
pub record Traced (o : Options) (f : Floor) : Type 0 where
  pub floor : AcceptedFloor f
  pub energy : ¬ BadEnergy o f
  pub mass : ¬ BadMass o f

pub record Posed (o : Options) (f : Floor) : Type 0 where
  pub traced : Traced o f
  pub bounded : ¬ Row23 o f

-- row 24's other reasons, which the branch that the options choose gives in its own order (crates pass_solution, pass_inverse_iteration and pass_field, each by a
-- definition): "3 right-hand norm, 4 diagonal, 5 first residual, 6 denominator, 7 lost definiteness, 8 inner count spent, 9 mass of the iterate, 10 Rayleigh
-- denominator, 11 estimate, 12 outer count spent, 13 non-finite field"; "vertex for reason 4"
pub record SolverReason (reason place : ℕ) : Type 0 where
  pub from : 3 ≤ reason
  pub to : reason ≤ 13
  pub no_place : reason ≢ 4 → place ≡ 0

-- why a pass is refused
pub data RefusedPass (f : Floor) (o : Options) (g : Guidance) (iterations : ℕ) (x : Refusal) : Type 0 where
  by-floor : RefusedFloor f x → RefusedPass f o g iterations x
  by-energy : AcceptedFloor f → BadEnergy o f → x ≡ gave_up 1 0 → RefusedPass f o g iterations x
  by-mass : AcceptedFloor f → ¬ BadEnergy o f → BadMass o f → x ≡ gave_up 2 0 → RefusedPass f o g iterations x
  by-23 : Traced o f → Row23 o f → x ≡ row_at 23 0 → RefusedPass f o g iterations x
  by-solver : Posed o f → (reason place : ℕ) → SolverReason reason place → searched (built_of o f) f o g iterations ≡ faulty (gave_up reason place) → x ≡ gave_up reason place → RefusedPass f o g iterations x

-- "given exactly if"
pub record PassRows (f : Floor) (o : Options) (g : Guidance) (iterations : ℕ) : Type 0 where
  pub exactly : (x : Refusal) → (pass_of f o g iterations ≡ faulty x) ↔ RefusedPass f o g iterations x
