-- `pass_gradients::gather` meets its contract: over sums of 0 that it puts there itself; the laws are in proofs/Steps.
use Rattle.pass_gradients.proofs.Steps.{filled-length, gathered_none, gathered-all}
use Rattle.pass_gradients.proofs.gather.Goals as goal

pub gather_all-requires : goal.gather_all-requires
gather_all-requires c = record {
  gradients_room = rw
      (filled-length c.args.p c.args.words.now c.args.work.now c.requires.gradients_room
      c.fill.ensures)
      c.requires.gradients_room;
  below = (
    c.requires.below,
    gathered_none c.args.p c.args.words.now c.args.work.now c.requires.gradients_room
        c.fill.ensures,
  );
}

pub returns : goal.returns
returns c =
    gathered-all c.args.p c.args.words.now c.args.work.now c.requires.gradients_room c.fill.ensures c.requires.below c.gather_all.ensures
