-- `pass_inverse_iteration::rayleigh` meets its contract: the calls in order; the law is in proofs/Judgements.
use native.Mathlib.Omega.{arith}
use Rattle.linear_cells.proofs.Loops.{apart}
use Rattle.pass_inverse_iteration.proofs.Judgements.{rayleigh-all}
use Rattle.pass_inverse_iteration.proofs.rayleigh.Goals as goal

pub apply-requires : goal.apply-requires
apply-requires c = record { apply_room = omega (arith, apart); graph = c.requires.graphs.mass-graph }

pub apply-requires-2 : goal.apply-requires-2
apply-requires-2 c = record { apply_room = omega (arith, apart); graph = c.requires.graphs.energy-graph }

pub dot_re-requires : goal.dot_re-requires
dot_re-requires c =
    omega (arith, c.requires.pencil_room.energy-room.vector-room.vectors-in)

pub dot_re-requires-2 : goal.dot_re-requires-2
dot_re-requires-2 c =
    omega (arith, c.requires.pencil_room.energy-room.vector-room.vectors-in)

pub returns : goal.returns
returns c =
    rayleigh-all _ _ _ _ c.requires.pencil_room c.apply.ensures c.apply-2.ensures c.dot_re.ensures c.dot_re-2.ensures
