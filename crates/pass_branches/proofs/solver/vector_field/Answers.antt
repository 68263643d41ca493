-- `pass_branches::solver::vector_field` meets its contract: each return is one case of the end; the laws are in proofs/Ends.
use mathlib.Core.Path.{◌≡◌, sym, ◌∙◌}
use borrow.Author.Rules.{rules}
use Rattle.std.specs.Prelude.{Err}
use Rattle.pass_solution.proofs.Chains.{not_done, framed-length}
use Rattle.pass_inverse_iteration.proofs.Judgements.{same-pencil}
use Rattle.pass_branches.proofs.Copies.{entries-room, angles-room, copied-length, copied-room, copied-engine, leaves-vector}
use Rattle.pass_branches.proofs.Modes.{below, pencil-room}
use Rattle.pass_branches.proofs.Ends.{leaves-refused, leaves-angles}
use Rattle.pass_branches.proofs.solver.vector_field.Goals as goal

pub entries-requires : goal.entries-requires
entries-requires c = record { interleaved = c.requires.copy_room.1.ready.interleaved; entries_room = entries-room _ c.requires.branch_room.system-room.soft-room.h-room c.requires.copy_room.0.0 }

pub inverse_iteration-requires : goal.inverse_iteration-requires
inverse_iteration-requires c = record {
  pencil_room = (
    same-pencil (copied-length _ _ _ _ _ c.requires.branch_room.system-room.soft-room.h-room c.requires.copy_room.0.0 c.requires.copy_room.1 c.entries.ensures) (pencil-room _ c.requires.branch_room),
    c.requires.branch_room.plane-room,
  );
  graphs = c.requires.graphs;
  engine = copied-engine _ _ _ _ _ c.requires.branch_room.system-room.soft-room.h-room c.requires.copy_room.0.0 c.requires.copy_room.1 c.entries.ensures;
}

pub returns-in_err-inverse_iteration : goal.returns-in_err-inverse_iteration
returns-in_err-inverse_iteration c =
    let r : c.from_residual.result ≡ Err c.in_err-inverse_iteration.field-0.0 = search rules in
    let e : c.from_residual.result ≡ c.inverse_iteration.result = r ∙ sym c.in_err-inverse_iteration.was in
    rw e (
    leaves-vector _ _ _ _ _ c.requires.branch_room.system-room.soft-room.h-room c.requires.copy_room.0.0 c.requires.copy_room.1 c.entries.ensures c.requires.copy_room.0.1
    (leaves-refused _ _ (copied-room _ _ _ _ _ c.requires.branch_room.system-room.soft-room.h-room c.requires.copy_room.0.0 c.requires.copy_room.1 c.entries.ensures) (below _ c.requires.branch_room)
    c.inverse_iteration.ensures (not_done c.in_err-inverse_iteration.was)))

pub angles_from-requires : goal.angles_from-requires
angles_from-requires c =
    let entries = c.entries.ensures in
    angles-room c.args.b c.requires.branch_room.system-room.soft-room.h-room (below _ c.requires.branch_room)
    (framed-length _ _ _ c.inverse_iteration.ensures.frame
    ∙ copied-length _ _ _ _ _ c.requires.branch_room.system-room.soft-room.h-room c.requires.copy_room.0.0 c.requires.copy_room.1 entries)

pub returns : goal.returns
returns c =
    leaves-vector _ _ _ _ _ c.requires.branch_room.system-room.soft-room.h-room c.requires.copy_room.0.0 c.requires.copy_room.1 c.entries.ensures c.requires.copy_room.0.1
    (leaves-angles _ _ (copied-room _ _ _ _ _ c.requires.branch_room.system-room.soft-room.h-room c.requires.copy_room.0.0 c.requires.copy_room.1 c.entries.ensures) (below _ c.requires.branch_room)
    c.inverse_iteration.ensures c.in_ok-inverse_iteration.was c.angles_from.ensures)
