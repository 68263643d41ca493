-- `pass_boundary::mark_all` meets its contract: the loop keeps what the invariant says; the laws are in proofs/Steps.
use native.Mathlib.Omega.{arith}
use mathlib.Core.Path.{◌≡◌}
use Rattle.pass_boundary.proofs.Steps.{marked-none, marked_more, marked-few, still-facts}
use Rattle.pass_boundary.proofs.mark_all.Goals as goal

pub loop-i-init : goal.loop-i-init
loop-i-init c = (omega arith, marked-none _ _ _ _)

pub mark_triangle-count-requires : goal.mark_triangle-count-requires
mark_triangle-count-requires c =
    let f = (still-facts (c.requires.list_room, c.requires.sided) c.loop-i.invariant.1.added) in record { list_room = f.0; sided = (f.1.0, (f.1.1, c.loop-i-test.true)) }

pub overflow_add-count : goal.overflow_add-count
overflow_add-count c =
    omega (arith, marked-few c.mark_triangle-count.ensures, c.loop-i.invariant.0, c.requires.list_room.0.narrow)

pub loop-i-preserved : goal.loop-i-preserved
loop-i-preserved c =
    (omega (arith, marked-few c.mark_triangle-count.ensures, c.loop-i.invariant.0), marked_more c.requires.list_room.0 c.requires.list_room.1 c.loop-i-test.true c.loop-i.invariant.1 c.mark_triangle-count.ensures)

pub shape_of-w : goal.shape_of-w
shape_of-w c = c.loop-i.invariant.1.added.w-length

pub shape_of-u : goal.shape_of-u
shape_of-u c = c.loop-i.invariant.1.added.u-length

pub returns : goal.returns
returns c = let e : c.loop-i.i ≡ c.args.l.triangles = omega arith in rw e at c.loop-i.invariant.1
