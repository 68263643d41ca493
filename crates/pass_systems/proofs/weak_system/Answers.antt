-- `pass_systems::weak_system` meets its contract: the calls in order; the laws are in proofs/Made.
use native.Mathlib.Omega.{arith}
use Rattle.pass_soft.proofs.Systems.{same-soft}
use Rattle.pass_systems.proofs.Made.{penalty-room, weak-made}
use borrow.Author.Rules.{rules}
use Rattle.pass_systems.proofs.weak_system.Goals as goal

pub penalise-requires : goal.penalise-requires
penalise-requires c =
    (c.requires.graph.1, penalty-room _ _ c.requires.system_room.0.soft-room c.requires.system_room.1)

pub soften-requires : goal.soften-requires
soften-requires c = record { soft_room = (same-soft (search rules) _ _ _ c.requires.system_room.0.soft-room, omega arith); graph = c.requires.graph.0 }

pub returns : goal.returns
returns c =
    weak-made _ _ _ _ c.requires.system_room.0 _ _ c.requires.system_room.1 c.penalise.ensures c.soften.ensures
