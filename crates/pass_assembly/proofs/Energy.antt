-- The energy matrix of a pass after its shift. Assumes nothing.
use mathlib.Core.Path.{◌≡◌, ◌∙◌}
use mathlib.Core.List.{List}
use Prim.Native.Nat.{ℕ}
use lib.Ieee.{Float, nan}
use lib.ListN.{length}
use Rattle.linear_cells.specs.Region.{region}
use Rattle.linear_hermitian.specs.declared.Hermitian.{Hermitian}
use Rattle.linear_hermitian.specs.Work.{matrix, shift_matrix, ShiftRoom}
use Rattle.linear_hermitian.proofs.Shift.{matrix-shifted}
use Rattle.pass_assembly.specs.declared.shift.Traces.{Traces}
use Rattle.pass_assembly.specs.Shift.{traces_of, shift_of, shifted_energy}

pub energy-shifted : (w : List Float) (mass energy : Hermitian) (t : Traces) → ShiftRoom (length w) energy mass
    → t ≡ traces_of (region nan w mass.diagonal mass.size) (region nan w energy.diagonal energy.size) → (from to : List ℕ)
    → matrix (shift_matrix w energy (shift_of t) mass) energy from to ≡ shifted_energy (matrix w mass from to) (matrix w energy from to)
unfolding shifted_energy matrix
energy-shifted w mass energy t ok e from to = matrix-shifted w energy (shift_of t) mass ok from to ∙ rw e
