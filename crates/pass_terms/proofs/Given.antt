-- The factors are given where the accurate integrals are asked for, and are of the holonomy. Assumes nothing.
use mathlib.Core.Path.{◌≡◌, refl}
use mathlib.Core.Bool.{Bool, true, false}
use lib.Ieee.{Float}
use Rattle.std.specs.Prelude.{Option, is_some}
use Rattle.integrals.specs.declared.Factors.{Factors}
use Rattle.pass_terms.specs.Factors.{factors_in, FactorsOf}

pub factors-given : (accurate : Bool) (ω : Float) {f : Option Factors} → f ≡ factors_in accurate ω → FactorsOf ω f × (is_some f ≡ accurate)
unfolding factors_in
factors-given true ω e = rw e (refl, refl)
factors-given false ω e = rw e (tt, refl)
