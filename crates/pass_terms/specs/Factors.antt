-- What a triangle's entries take of its holonomy alone, made once for its three sides: that of the accurate integrals, or none. Definitions only.
use Rattle.std.specs.Prelude.{◌≡◌, Bool, cond, Float, Option, Some, None}
use Rattle.integrals.specs.declared.Factors.{Factors}
use Rattle.integrals.specs.Factors.{factors_of}

unfoldable pub factors_in : Bool → Float → Option Factors
factors_in accurate ω = cond accurate (Some (factors_of ω)) None

-- those that are given are of this holonomy
abbrev pub FactorsOf : Float → Option Factors → Type 0
FactorsOf ω (Some f) = f ≡ factors_of ω
FactorsOf ω None = Unit {0}
