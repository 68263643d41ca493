-- `pass_inverse_iteration::begin` meets its contract: the calls in order; the law is in proofs/Iterations.
use native.Mathlib.Omega.{arith}
use Rattle.linear_cells.proofs.Loops.{apart}
use Rattle.linear_conjugate_gradient.proofs.Lays.{same-room}
use Rattle.pass_inverse_iteration.proofs.Iterations.{start-normalized}
use borrow.Author.Rules.{rules}
use Rattle.pass_inverse_iteration.proofs.begin.Goals as goal

pub start-requires : goal.start-requires
start-requires c = omega (arith, apart)

pub normalize-requires : goal.normalize-requires
normalize-requires c = record { solver_room = same-room (search rules) _ _ c.requires.solver_room.0; graph = c.requires.graph }

pub returns : goal.returns
returns c =
    start-normalized c.args.p _ _ _ c.args.o c.requires.solver_room.0 c.start.ensures c.normalize.ensures
