-- `refine_call::marks::cut_marked` meets its contract: a triangle that is not marked stays, the sides of any other are met; the laws are in proofs/Marking.
use native.Mathlib.Omega.{arith}
use Rattle.refine_call.proofs.Marking.{met-below, cut-passed, cut-cut}
use Rattle.refine_call.proofs.marks.cut_marked.Goals as goal

pub returns-then-marks-at-eq0 : goal.returns-then-marks-at-eq0
returns-then-marks-at-eq0 c = cut-passed c.requires.held_in_two c.if-marks-at-eq0.true

pub overflow_add-points : goal.overflow_add-points
overflow_add-points c =
    let m = c.meet_triangle-met.ensures in omega (arith, met-below m, m.more, c.requires.marks_room)

pub overflow_add-points-2 : goal.overflow_add-points-2
overflow_add-points-2 c =
    let m = c.meet_triangle-met.ensures in omega (arith, met-below m, m.more, c.requires.marks_room)

pub overflow_cast-points : goal.overflow_cast-points
overflow_cast-points c =
    let m = c.meet_triangle-met.ensures in omega (arith, met-below m, m.more, c.requires.marks_room)

pub overflow_add-points-3 : goal.overflow_add-points-3
overflow_add-points-3 c =
    let m = c.meet_triangle-met.ensures in omega (arith, met-below m, m.more, c.requires.marks_room)

pub overflow_add-points-4 : goal.overflow_add-points-4
overflow_add-points-4 c =
    let m = c.meet_triangle-met.ensures in omega (arith, met-below m, m.more, c.requires.marks_room)

pub overflow_cast-points-2 : goal.overflow_cast-points-2
overflow_cast-points-2 c =
    let m = c.meet_triangle-met.ensures in omega (arith, met-below m, m.more, c.requires.marks_room)

pub overflow_add-points-5 : goal.overflow_add-points-5
overflow_add-points-5 c =
    let m = c.meet_triangle-met.ensures in omega (arith, met-below m, m.more, c.requires.marks_room)

pub overflow_add-points-6 : goal.overflow_add-points-6
overflow_add-points-6 c =
    let m = c.meet_triangle-met.ensures in omega (arith, met-below m, m.more, c.requires.marks_room)

pub overflow_cast-points-3 : goal.overflow_cast-points-3
overflow_cast-points-3 c =
    let m = c.meet_triangle-met.ensures in omega (arith, met-below m, m.more, c.requires.marks_room)

pub put_three-requires : goal.put_three-requires
put_three-requires c =
    omega (arith, c.meet_triangle-met.ensures.outside.same, c.requires.held_in_two.links-in, c.requires.marks_room)

pub returns : goal.returns
returns c =
    cut-cut (omega (arith, c.requires.marks_room)) (omega (arith, c.requires.held_in_two.links-in)) c.if-marks-at-eq0.false (rw c.corners-c.ensures at c.meet_triangle-met.ensures) c.put_three.ensures
