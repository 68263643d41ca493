-- `text_floor::put_floor` meets its contract: the three slices, and the counts; the laws are in proofs/Lines. Assumes nothing.
use native.Mathlib.Omega.{arith}
use Rattle.text_floor.proofs.Lines.{known, read_done}
use Rattle.text_floor.proofs.put_floor.Goals as goal

pub size_at-n-requires : goal.size_at-n-requires
size_at-n-requires c = let k = known _ c.requires.text_value in omega (arith, k.long)

pub size_at-t-requires : goal.size_at-t-requires
size_at-t-requires c = let k = known _ c.requires.text_value in omega (arith, k.long)

pub put_points-requires : goal.put_points-requires
put_points-requires c =
    let k = known _ c.requires.text_value in omega (arith, k.long, k.few-points, k.few-triangles, c.size_at-n.ensures, c.size_at-t.ensures, c.requires.in_bounds)

pub put_angles-requires : goal.put_angles-requires
put_angles-requires c =
    let k = known _ c.requires.text_value in omega (arith, k.long, k.few-points, k.few-triangles, c.size_at-n.ensures, c.size_at-t.ensures, c.requires.in_bounds)

pub put_triangles-requires : goal.put_triangles-requires
put_triangles-requires c =
    let k = known _ c.requires.text_value in omega (arith, k.long, k.few-points, k.few-triangles, c.size_at-n.ensures, c.size_at-t.ensures, c.requires.in_bounds)

pub radians_at-requires : goal.radians_at-requires
radians_at-requires c =
    let k = known _ c.requires.text_value in omega (arith, k.long)

pub returns : goal.returns
returns c =
    read_done c.args.text.now c.requires.text_value c.size_at-n.ensures c.size_at-t.ensures c.radians_at.ensures c.put_points.ensures c.put_angles.ensures c.put_triangles.ensures
