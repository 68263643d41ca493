-- `pass::build` meets its contract: where the matrices stand is what the layout's functions say, and there is room for them.
use Rattle.pass.proofs.Matrices.{assembly-room, trace-room}
use mathlib.Core.Path.{refl}
use Rattle.pass.proofs.build.Goals as goal

pub assemble-requires : goal.assemble-requires
assemble-requires c = rw (c.plan_at.ensures, c.energy_at-energy.ensures, c.mass_at-mass.ensures) (record { assembly_room = assembly-room _ _ c.requires.ordered c.requires.indexed.1; indexed = c.requires.indexed.0 })

pub traces_of-requires : goal.traces_of-requires
traces_of-requires c =
    rw (c.energy_at-energy.ensures, c.mass_at-mass.ensures) (trace-room _ _ c.requires.ordered c.requires.indexed.1 _ _ _ refl refl (rw (c.plan_at.ensures, c.energy_at-energy.ensures, c.mass_at-mass.ensures) at c.assemble.ensures))

pub returns : goal.returns
returns c =
    record { work = rw (c.plan_at.ensures, c.energy_at-energy.ensures, c.mass_at-mass.ensures) at c.assemble.ensures; traces = rw (c.energy_at-energy.ensures, c.mass_at-mass.ensures) at c.traces_of.ensures }
