-- `pass_systems::tangent_system` meets its contract: the calls in order; the laws are in proofs/Made.
use native.Mathlib.Omega.{arith}
use Rattle.linear_cells.proofs.Loops.{apart}
use Rattle.pass_systems.proofs.Made.{same-system, same-targets, tangent-made}
use borrow.Author.Rules.{rules}
use Rattle.pass_systems.proofs.tangent_system.Goals as goal

pub apply-requires : goal.apply-requires
apply-requires c = record { apply_room = omega (arith, apart); graph = c.requires.graph.0.0 }

pub fill-requires : goal.fill-requires
fill-requires c =
    omega (arith, c.requires.system_room.1.room.vector-room.vectors-in)

pub soften_inside-requires : goal.soften_inside-requires
soften_inside-requires c = record { system_room = same-system _ (search rules) c.requires.system_room.0; graph = (c.requires.graph.0.1, c.requires.graph.1) }

pub fix_boundary-requires : goal.fix_boundary-requires
fix_boundary-requires c = record { target_room = same-targets _ (search rules) c.requires.system_room.1; graph = ((c.requires.graph.0.0, c.requires.graph.1)) }

pub returns : goal.returns
returns c =
    tangent-made _ _ _ _ _ c.requires.system_room.0 c.requires.system_room.1 c.apply.ensures c.fill.ensures c.requires.s_value c.soften_inside.ensures c.fix_boundary.ensures
