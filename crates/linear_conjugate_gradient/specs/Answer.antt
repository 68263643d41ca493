-- What document 01 says of an answer: the number of its refusal, the reason, and the place.
use Rattle.std.specs.Prelude.{ℕ}
use Rattle.linear_conjugate_gradient.specs.declared.Reason.{Reason}
use Rattle.linear_conjugate_gradient.specs.declared.Reason.TheVariants.{RightHandNorm, Diagonal, FirstResidual, Denominator, LostDefiniteness, CountSpent, MassOfIterate}

-- the row of the table: no refusal of this layer has another
abbrev pub number : Reason → ℕ
number r = 24

-- document 01's reasons of row 24, by their numbers
unfoldable pub reason : Reason → ℕ
reason RightHandNorm = 3
reason (Diagonal i) = 4
reason FirstResidual = 5
reason Denominator = 6
reason LostDefiniteness = 7
reason CountSpent = 8
reason MassOfIterate = 9

-- the vertex of reason 4; no other reason has a place, and 0 stands in for it
unfoldable pub place : Reason → ℕ
place RightHandNorm = 0
place (Diagonal i) = i
place FirstResidual = 0
place Denominator = 0
place LostDefiniteness = 0
place CountSpent = 0
place MassOfIterate = 0
