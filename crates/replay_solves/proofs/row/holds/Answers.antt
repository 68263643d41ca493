-- `replay_solves::row::holds` meets its contract: each slice holds what stands at its place, as many as counted.
use native.Mathlib.Omega.{arith}
use mathlib.Core.Path.{refl}
use Prim.Native.Nat.{◌+◌, ◌-◌}
use Rattle.float.specs.Double.{lit}
use Rattle.replay.specs.Rows.{double_at, corner_at}
use Rattle.replay_solves.specs.Solve.{solve_row}
use Rattle.replay_solves.proofs.Asked.{given-front, solve-as}
use Rattle.replay_solves.proofs.row.holds.Goals as goal

pub returns : goal.returns
unfolding solve_row
returns c =
    let row = c.args.row.now in
    let p = c.count-s in
    let s = c.count in
    let g = c.count-2 in
    let t = c.count-3 in
    let sizes = 13 + p.result in
    let angles = sizes + s.result in
    let corners = angles + g.result in
    solve-as row (omega (arith, p.ensures.0, s.ensures.0, g.ensures.0, t.ensures.0))
    (given-front (double_at row) (lit 0) row 0 40 13 (sizes - 13) c.doubles.ensures refl (omega (arith, p.ensures.0)) (omega (arith, p.ensures.1)))
    (given-front (corner_at row) 0 row 1 40 corners (corners + t.result - corners) c.corners.ensures (omega (arith, p.ensures.0, s.ensures.0, g.ensures.0)) (omega (arith, t.ensures.0)) (omega (arith, t.ensures.1)))
    (given-front (double_at row) (lit 0) row 2 16 sizes (angles - sizes) c.doubles-2.ensures (omega (arith, p.ensures.0)) (omega (arith, s.ensures.0)) (omega (arith, s.ensures.1)))
    (given-front (double_at row) (lit 0) row 3 16 angles (corners - angles) c.doubles-3.ensures (omega (arith, p.ensures.0, s.ensures.0)) (omega (arith, g.ensures.0)) (omega (arith, g.ensures.1)))
    c.given.ensures
