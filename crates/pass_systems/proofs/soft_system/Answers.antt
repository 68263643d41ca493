-- `pass_systems::soft_system` meets its contract: the calls in order; the laws are in proofs/Made.
use Rattle.pass_soft.proofs.Systems.{same-soft}
use native.Mathlib.Omega.{arith}
use Rattle.pass_systems.proofs.Made.{soft-made}
use borrow.Author.Rules.{rules}
use Rattle.pass_systems.proofs.soft_system.Goals as goal

pub fill-requires : goal.fill-requires
fill-requires c = omega (arith, c.requires.system_room.soft-room.h-room.vector-room.vectors-in)

pub soften-requires : goal.soften-requires
soften-requires c = record { soft_room = (same-soft (search rules) _ _ _ c.requires.system_room.soft-room, omega arith); graph = c.requires.graph }

pub returns : goal.returns
returns c =
    soft-made _ _ _ _ c.requires.system_room c.fill.ensures c.soften.ensures
