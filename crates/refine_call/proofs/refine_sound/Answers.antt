-- `refine_call::refine_sound` meets its contract: its steps, one after the other; the laws are in proofs/Facts.
use Rattle.refine_call.proofs.Facts.{marks-room, marks-made, floor-room, filled}
use Rattle.refine_call.proofs.refine_sound.Goals as goal

pub cut_sides-cut-requires : goal.cut_sides-cut-requires
cut_sides-cut-requires c =
    marks-room c.args.threshold c.args.angles.now c.args.points.now c.args.sizes.now c.args.triangles.now c.args.new_points.now c.args.new_sizes.now c.args.new_triangles.now c.args.cut_ends.now c.requires

pub put_pieces-pieces-requires : goal.put_pieces-pieces-requires
put_pieces-pieces-requires c =
    marks-made c.args.threshold c.args.angles.now c.args.points.now c.args.sizes.now
    c.args.triangles.now c.args.new_points.now c.args.new_sizes.now c.args.new_triangles.now
    c.args.cut_ends.now c.requires c.cut_sides-cut.ensures

pub put_floor-requires : goal.put_floor-requires
put_floor-requires c =
    floor-room c.args.threshold c.args.angles.now c.args.points.now c.args.sizes.now
    c.args.triangles.now c.args.new_points.now c.args.new_sizes.now c.args.new_triangles.now
    c.args.cut_ends.now c.requires c.cut_sides-cut.ensures

pub returns : goal.returns
returns c =
    filled c.args.threshold c.args.angles.now c.args.points.now c.args.sizes.now c.args.triangles.now
    c.args.new_points.now c.args.new_sizes.now c.args.new_triangles.now c.args.cut_ends.now c.requires
    c.cut_sides-cut.ensures c.put_pieces-pieces.ensures c.put_floor.ensures
