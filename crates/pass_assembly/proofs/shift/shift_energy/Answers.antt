-- `pass_assembly::shift::shift_energy` meets its contract: what its call ensures, with the shift's definition opened.
use Rattle.pass_assembly.specs.Shift.{shift_of}
use Rattle.pass_assembly.proofs.shift.shift_energy.Goals as goal

pub returns : goal.returns
unfolding shift_of
returns c = c.shifted.ensures
