-- The probe and the count of singularities as C sees them: the answer's number, and what the lent places then hold. Definitions only.
use Rattle.std.specs.Prelude.{ℕ, ◌≡◌, Float, Result}
use Rattle.complex.specs.Angle.{IsCross}
use Rattle.probe.specs.declared.ProbeError.{ProbeError}
use Rattle.probe.specs.Probe.{number as probe_number, angle_or}
use Rattle.singularities.specs.declared.Counts.{Counts}
use Rattle.singularities.specs.declared.NotTriples.{NotTriples}
use Rattle.singularities.specs.Count.{number as count_number, threes, fives}

-- an angle that is told lies in [0, FRAC_PI_2)
pub record Probed (p : Result Float ProbeError) (angle : Float) (code : ℕ) (angle' : Float) : Type 0 where
  pub number : code ≡ probe_number p
  pub value : angle' ≡ angle_or p angle
  pub range : code ≡ 0 → IsCross angle'

pub record CountedIn (s : Result Counts NotTriples) (three five code three' five' : ℕ) : Type 0 where
  pub number : code ≡ count_number s
  pub three-is : three' ≡ threes s three
  pub five-is : five' ≡ fives s five
