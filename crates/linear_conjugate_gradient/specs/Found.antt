-- What the solver finds: a vector, or why there is none. Definitions only.
use Rattle.std.specs.Prelude.{ℕ, List}
use Rattle.complex.specs.declared.Complex.{Complex}

-- a vector, or document 01's reason for row 24 with its place
pub data Found : Type 0 where
  vector : List Complex → Found
  gave : ℕ → ℕ → Found
