-- Refusals by document 01's table: a row with its place. Definitions only.
use Rattle.std.specs.Prelude.{ℕ, Result}
use Rattle.refusals.specs.declared.Refusal.{Refusal}

-- what a check or a stage of a pass returns: nothing, or a refusal
abbrev pub Verdict : Type 0
Verdict = Result (Unit {0}) Refusal

-- a row with a triangle or a point for its place
abbrev pub row_at : ℕ → ℕ → Refusal
row_at k i = record { number = k; place = i; other = 0; pass = 0; reason = 0 }

-- a row without a place, which is 0
abbrev pub row : ℕ → Refusal
row k = row_at k 0

-- row 22, "edge's ends"
abbrev pub between : ℕ → ℕ → Refusal
between a b = record { number = 22; place = a; other = b; pass = 0; reason = 0 }

-- row 24, "solver gave up, with a reason"
abbrev pub gave_up : ℕ → ℕ → Refusal
gave_up reason place = record { number = 24; place = place; other = 0; pass = 0; reason = reason }
