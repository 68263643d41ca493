-- `pass::shift_energy` meets its contract: where the matrices stand is what the layout's functions say.
use Rattle.pass.proofs.shift_energy.Goals as goal

pub shift_energy-requires : goal.shift_energy-requires
shift_energy-requires c = rw (c.energy_at-energy.ensures, c.mass_at-mass.ensures) c.requires

pub returns : goal.returns
returns c = rw (c.energy_at-energy.ensures, c.mass_at-mass.ensures) at c.shift_energy.ensures
