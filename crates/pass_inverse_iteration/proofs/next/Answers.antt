-- `pass_inverse_iteration::next` meets its contract: each return is one case of the chain; the laws are in proofs/Iterations.
use mathlib.Core.Path.{◌≡◌, sym, ◌∙◌}
use native.Mathlib.Omega.{arith}
use Rattle.std.specs.Prelude.{Err}
use Rattle.linear_cells.proofs.Loops.{apart}
use Rattle.linear_conjugate_gradient.proofs.Lays.{same-room}
use Rattle.pass_solution.proofs.Chains.{not_done}
use Rattle.pass_inverse_iteration.proofs.Iterations.{next-engine, next-refused, next-normalized}
use borrow.Author.Rules.{rules}
use Rattle.pass_inverse_iteration.proofs.next.Goals as goal

pub apply-requires : goal.apply-requires
apply-requires c = record { apply_room = omega (arith, apart); graph = c.requires.graphs.mass-graph }

pub solve-requires : goal.solve-requires
solve-requires c = record { solver_room = same-room (search rules) _ _ c.requires.pencil_room.energy-room; graph = c.requires.graphs.energy-graph; engine = next-engine _ _ _ _ c.args.o c.requires.pencil_room c.apply.ensures _ _ c.requires.engine }

pub returns-in_err-solve : goal.returns-in_err-solve
returns-in_err-solve c =
    let r : c.from_residual.result ≡ Err c.in_err-solve.field-0.0 = search rules in
    let e : c.from_residual.result ≡ c.solve.result = r ∙ sym c.in_err-solve.was in
    rw e (next-refused _ _ _ _ _ c.requires.pencil_room c.apply.ensures c.solve.ensures (not_done c.in_err-solve.was))

pub normalize-requires : goal.normalize-requires
normalize-requires c = record { solver_room = same-room (search rules) _ _ c.requires.pencil_room.mass-room; graph = c.requires.graphs.mass-graph }

pub returns : goal.returns
returns c =
    next-normalized _ _ _ _ _ c.requires.pencil_room c.apply.ensures c.solve.ensures c.in_ok-solve.was c.normalize.ensures
