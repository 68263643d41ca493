-- The reason of document 01 that an answer has, and the iterations or the place, as they are recorded. Definitions only.
use Rattle.std.specs.Prelude.{ℕ, ◌/◌, ◌%◌, ◌^◌, Bool, cond, Option, Some, None, Result, Ok, Err}
use Rattle.linear_conjugate_gradient.specs.declared.Reason.{Reason}
use Rattle.linear_conjugate_gradient.specs.declared.Reason.TheVariants.{RightHandNorm, Diagonal, FirstResidual, Denominator, LostDefiniteness, CountSpent, MassOfIterate}
use Rattle.replay_linear.specs.declared.Verdict.{Verdict}

abbrev pub told_as : ℕ → ℕ → Verdict
told_as reason value = record { reason = reason; value = value }

abbrev pub of_reason : Reason → Verdict
of_reason RightHandNorm = told_as 3 0
of_reason (Diagonal i) = told_as 4 i
of_reason FirstResidual = told_as 5 0
of_reason Denominator = told_as 6 0
of_reason LostDefiniteness = told_as 7 0
of_reason CountSpent = told_as 8 0
of_reason MassOfIterate = told_as 9 0

-- an answer of linear_layers, where normalize_in_mass has no count: None where it refused the slices
abbrev pub of_checked : Option (Result ℕ Reason) → Verdict
of_checked None = told_as 255 0
of_checked (Some (Ok count)) = told_as 0 count
of_checked (Some (Err r)) = of_reason r

-- one end of an edge: the upper or the lower half of its word
abbrev pub end_in : ℕ → Bool → ℕ
end_in word upper = cond upper (word / 2 ^ 32) (word % 2 ^ 32)
