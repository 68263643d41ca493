-- `pass_setup::set_up_from_edges` meets its contract: each return follows from the calls on its way; the laws are in proofs/Join.
use Rattle.pass_setup.proofs.Join.{stays, still-joined}
use Rattle.pass_setup.proofs.Slices.{none-refused, means-sound, set-up-then, ordered-now}
use Rattle.pass_setup.proofs.set_up_from_edges.Goals as goal

pub set_up_transports-requires : goal.set_up_transports-requires
set_up_transports-requires c = record {
  ordered = ordered-now
      (stays c.args.l c.args.work.now c.args.words.now _ c.requires.ordered c.requires.averaged
      c.number_triangles-m.ensures c.split_ends.ensures)
      c.requires.ordered;
  joined = still-joined c.args.l c.args.work.now c.args.words.now c.requires.ordered c.requires.averaged
      c.number_triangles-m.ensures c.split_ends.ensures;
}

pub returns : goal.returns
returns c =
    set-up-then (none-refused c.requires.averaged.turned)
    (stays c.args.l c.args.work.now c.args.words.now _ c.requires.ordered c.requires.averaged
    c.number_triangles-m.ensures c.split_ends.ensures)
    (means-sound c.requires.averaged.sound) c.set_up_transports.ensures
