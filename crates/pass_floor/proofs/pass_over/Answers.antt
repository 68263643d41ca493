-- `pass_floor::pass_over` meets its contract: the laws of proofs/Lay, of what its calls ensure.
use Rattle.pass_floor.proofs.Lay.{lay-room, guidance-room, fits-now, made}
use Rattle.pass_floor.proofs.pass_over.Goals as goal

pub layout_at-l-requires : goal.layout_at-l-requires
layout_at-l-requires c = c.requires.laid_room.fits.small

pub lay_points-requires : goal.lay_points-requires
lay_points-requires c =
    rw c.layout_at-l.ensures (lay-room c.args.at c.args.a.guided c.args.points.now c.args.sizes.now c.args.guidance.now c.args.table c.args.work.now c.args.words.now c.requires.laid_room)

pub lay_guidance-requires : goal.lay_guidance-requires
lay_guidance-requires c =
    rw (c.lay_points.ensures, c.layout_at-l.ensures)
    (guidance-room c.args.at c.args.a.guided c.args.points.now c.args.sizes.now c.args.guidance.now
    c.args.table c.args.work.now c.args.words.now c.requires.laid_room)

pub pass-requires : goal.pass-requires
pass-requires c = record {
  fits = fits-now c.args.at c.args.o c.args.a _ _ _ c.args.table c.args.work.now c.args.words.now
      c.requires.laid_room (rw c.layout_at-l.ensures at c.lay_points.ensures)
      (rw c.layout_at-l.ensures at c.lay_guidance.ensures);
  below = c.requires.below;
}

pub returns : goal.returns
returns c =
    made c.args.at c.args.o c.args.a _ _ _ c.args.table c.args.work.now c.args.words.now
    c.requires.laid_room (rw c.layout_at-l.ensures at c.lay_points.ensures)
    (rw c.layout_at-l.ensures at c.lay_guidance.ensures) c.pass.ensures
