-- `pass_floor::first_pass` meets its contract: the laws of proofs/First, of what its calls ensure.
use Rattle.pass_floor.proofs.First.{laid-room, corners-laid, first_made}
use mathlib.Core.Path.{sym, ◌∙◌}
use Rattle.linear_cells.proofs.Regions.{put-sets}
use Rattle.pass_floor.proofs.first_pass.Goals as goal

pub pass_over-requires : goal.pass_over-requires
pass_over-requires c = record {
  laid_room = laid-room c.args.o c.args.a c.args.points.now c.args.triangles.now c.args.sizes.now
      c.args.guidance.now c.args.work.now c.args.words.now c.requires.first_room (c.copy.ensures ∙ sym (put-sets _ _ _));
  below = corners-laid
      c.args.o c.args.a c.args.points.now c.args.triangles.now c.args.sizes.now
      c.args.guidance.now c.args.work.now c.args.words.now c.requires.first_room (c.copy.ensures ∙ sym (put-sets _ _ _))
      c.requires.below;
}

pub returns : goal.returns
returns c =
    first_made c.args.o c.args.a c.args.points.now c.args.triangles.now c.args.sizes.now
    c.args.guidance.now c.args.work.now c.args.words.now c.requires.first_room (c.copy.ensures ∙ sym (put-sets _ _ _))
    c.pass_over.ensures
