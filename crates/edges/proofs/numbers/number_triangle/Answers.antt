-- `edges::numbers::number_triangle` meets its contract: each return follows from the tests and the calls on its way; the laws are in proofs/Numbering.
use native.Mathlib.Omega.{arith}
use Rattle.edges.proofs.Numbering.{numbers_fit, step_of}
use Rattle.edges.proofs.numbers.number_triangle.Goals as goal

pub overflow_cast-met : goal.overflow_cast-met
overflow_cast-met c =
    record { fits = (numbers_fit c.requires.numbering_room c.requires.i_lt_triangles c.meet_triangle-met.ensures).0 }

pub overflow_cast-met-2 : goal.overflow_cast-met-2
overflow_cast-met-2 c =
    record { fits = (numbers_fit c.requires.numbering_room c.requires.i_lt_triangles c.meet_triangle-met.ensures).1 }

pub overflow_cast-met-3 : goal.overflow_cast-met-3
overflow_cast-met-3 c =
    record { fits = (numbers_fit c.requires.numbering_room c.requires.i_lt_triangles c.meet_triangle-met.ensures).2 }

pub put_three-requires : goal.put_three-requires
put_three-requires c =
    omega (arith, c.requires.numbering_room, c.requires.i_lt_triangles, c.meet_triangle-met.ensures.outside.same)

pub returns : goal.returns
returns c =
    step_of c.requires.numbering_room c.requires.i_lt_triangles.0 c.requires.i_lt_triangles.1 (rw c.corners-c.ensures at c.meet_triangle-met.ensures) c.put_three.ensures
