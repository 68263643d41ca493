-- `pass_branches::solver::solve_system` meets its contract: each return is one case of the end; the laws are in proofs/Ends.
use mathlib.Core.Path.{◌≡◌, sym, ◌∙◌}
use borrow.Author.Rules.{rules}
use native.Mathlib.Omega.{arith}
use Rattle.std.specs.Prelude.{Err}
use Rattle.linear_cells.proofs.Loops.{apart}
use Rattle.pass_solution.proofs.Chains.{not_done}
use Rattle.pass_branches.proofs.Copies.{entries-room, copied-room, copied-engine, leaves-linear}
use Rattle.pass_branches.proofs.Modes.{below}
use Rattle.pass_branches.proofs.Ends.{linear-refused, linear-angles}
use Rattle.pass_branches.proofs.solver.solve_system.Goals as goal

pub entries-requires : goal.entries-requires
entries-requires c = record { interleaved = c.requires.copy_room.1.ready.interleaved; entries_room = entries-room _ c.requires.branch_room.system-room.soft-room.h-room c.requires.copy_room.0 }

pub solve-requires : goal.solve-requires
solve-requires c =
    record {
      solver_room = copied-room _ _ _ _ _ c.requires.branch_room.system-room.soft-room.h-room c.requires.copy_room.0 c.requires.copy_room.1 c.entries.ensures;
      graph = c.requires.graph;
      engine = copied-engine _ _ _ _ _ c.requires.branch_room.system-room.soft-room.h-room c.requires.copy_room.0 c.requires.copy_room.1 c.entries.ensures;
    }

pub returns-in_err-solve : goal.returns-in_err-solve
returns-in_err-solve c =
    let r : c.from_residual.result ≡ Err c.in_err-solve.field-0.0 = search rules in
    let e : c.from_residual.result ≡ c.solve.result = r ∙ sym c.in_err-solve.was in
    rw e (
    leaves-linear _ _ _ _ _ c.requires.branch_room.system-room.soft-room.h-room c.requires.copy_room.0 c.requires.copy_room.1 c.entries.ensures
    (linear-refused _ _ _ _ (copied-room _ _ _ _ _ c.requires.branch_room.system-room.soft-room.h-room c.requires.copy_room.0 c.requires.copy_room.1 c.entries.ensures, below _ c.requires.branch_room) c.linear_most-most.ensures
    c.solve.ensures (not_done c.in_err-solve.was)))

pub angles_from-requires : goal.angles_from-requires
angles_from-requires c =
    omega (arith, apart, c.requires.branch_room.system-room.soft-room.h-room.vector-room.vectors-in)

pub returns : goal.returns
returns c =
    leaves-linear _ _ _ _ _ c.requires.branch_room.system-room.soft-room.h-room c.requires.copy_room.0 c.requires.copy_room.1 c.entries.ensures
    (linear-angles _ _ _ _ (copied-room _ _ _ _ _ c.requires.branch_room.system-room.soft-room.h-room c.requires.copy_room.0 c.requires.copy_room.1 c.entries.ensures, below _ c.requires.branch_room) c.linear_most-most.ensures
    c.solve.ensures c.in_ok-solve.was c.angles_from.ensures)
