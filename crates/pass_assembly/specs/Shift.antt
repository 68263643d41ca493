-- The traces of both matrices and the shift of the energy in the Rust's `solve_mesh`, lines 1420 to 1433. Definitions only.
use Rattle.std.specs.Prelude.{List, Float}
use Rattle.float.specs.Double.{lit, ◌⊗◌, ◌⊘◌}
use Rattle.linear_hermitian.specs.Hermitian.{Matrix, trace_of, shifted_by}
use Rattle.pass_assembly.specs.declared.shift.Traces.{Traces}

-- of the diagonals, before any shift
unfoldable pub traces_of : List Float → List Float → Traces
traces_of mass energy = record { energy = trace_of energy; mass = trace_of mass }

-- ENERGY_SHIFT, 1e-8
abbrev pub ENERGY-SHIFT : Float
ENERGY-SHIFT = lit 0x3e45_798e_e230_8c3a

-- `ENERGY_SHIFT * energy_trace / mass_trace`
unfoldable pub shift_of : Traces → Float
shift_of t = ENERGY-SHIFT ⊗ t.energy ⊘ t.mass

unfoldable pub shifted_energy : Matrix → Matrix → Matrix
shifted_energy mass energy = shifted_by (shift_of (traces_of mass.diagonal energy.diagonal)) mass energy
