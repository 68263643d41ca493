-- One pass: the Rust's solve_mesh as one function of lists, every operation rounded once, in the order that the Rust writes it, without its checks (lines
-- 1230 to 1234), which `solve_of` makes once and which hold in the second pass too (`second-sound`, crate solve). A floor has no z, so that no pass depends
-- on one. Definitions only.
use Rattle.std.specs.Prelude.{ℕ, cond, Ok, Err}
use Rattle.floor.specs.Floor.{Floor, point_count, triangle_count}
use Rattle.linear_hermitian.specs.Hermitian.{Matrix}
use Rattle.pass_terms.specs.declared.Mode.{Mode}
use Rattle.pass_assembly.specs.Assembly as assembly
use Rattle.pass_assembly.specs.Lists.{assembled_of}
use Rattle.pass_assembly.specs.declared.shift.Traces.{Traces}
use Rattle.pass_assembly.specs.Shift.{traces_of, shifted_energy}
use Rattle.float.specs.Double.{not_positive}
use Rattle.refusals.specs.Refusal.{gave_up}
use Rattle.pass_options.specs.declared.Options.{Options}
use Rattle.pass_options.specs.Options.{Guidance}
use Rattle.pass_options.specs.Pass.{Passed, faulty}
use Rattle.pass_setup.specs.Setup.{wound_of, areas_of, edges_of, lowers_of, uppers_of, transports_of, setup_of, Setup}
use Rattle.pass_branches.specs.Branches.{Built, branch_of}

-- ---- the matrices, lines 1293 to 1418

abbrev pub mode_of : Options → Mode
mode_of o = record { accurate = o.accurate; holomorphic = o.holomorphic }

-- the floor as it is assembled
unfoldable pub assembled_floor : Floor → assembly.Assembled
assembled_floor f = assembled_of f.xs f.ys (wound_of f) (areas_of f) (edges_of f) (transports_of f)

unfoldable pub mass_of : Options → Floor → Matrix
mass_of o f = assembly.mass_matrix (mode_of o) (assembled_floor f) (point_count f) (triangle_count f) (lowers_of f) (uppers_of f)

unfoldable pub energy_of : Options → Floor → Matrix
energy_of o f = assembly.energy_matrix (mode_of o) (assembled_floor f) (point_count f) (triangle_count f) (lowers_of f) (uppers_of f)

-- ---- traces and shift, lines 1420 to 1433: reason 1, and then reason 2

unfoldable pub traces_in : Options → Floor → Traces
traces_in o f = traces_of (mass_of o f).diagonal (energy_of o f).diagonal

unfoldable pub built_of : Options → Floor → Built
built_of o f = record { mass = mass_of o f; energy = shifted_energy (mass_of o f) (energy_of o f); trace = (traces_in o f).energy }

abbrev pub after_traces : Traces → Passed → Passed
after_traces t next = cond (not_positive t.energy) (faulty (gave_up 1 0)) (cond (not_positive t.mass) (faulty (gave_up 2 0)) next)

-- ---- all of it

-- the field over a floor whose edges have transports
unfoldable pub field_over : Floor → Options → Guidance → ℕ → Passed
field_over f o g iterations = after_traces (traces_in o f) (branch_of (built_of o f) f o g iterations)

abbrev pub after_setup : Setup → Passed → Passed
after_setup (Ok m) next = next
after_setup (Err x) next = faulty x

unfoldable pub pass_of : Floor → Options → Guidance → ℕ → Passed
pass_of f o g iterations = after_setup (setup_of f) (field_over f o g iterations)
