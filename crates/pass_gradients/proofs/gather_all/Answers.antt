-- `pass_gradients::gather_all` meets its contract: the loop keeps what the invariant says; the laws are in proofs/Steps.
use native.Mathlib.Omega.{arith}
use mathlib.Core.Path.{◌≡◌}
use Rattle.pass_gradients.proofs.Steps.{gathered-more}
use Rattle.pass_gradients.proofs.gather_all.Goals as goal

pub loop-t-init : goal.loop-t-init
loop-t-init c = c.requires.below.1

pub gather_triangle-requires : goal.gather_triangle-requires
gather_triangle-requires c = record { gradients_room = (rw c.loop-t.invariant.same_length c.requires.gradients_room, c.loop-t-test.true); below = c.requires.below.0 }

pub loop-t-preserved : goal.loop-t-preserved
loop-t-preserved c = gathered-more c.requires.gradients_room c.requires.below.0 c.loop-t-test.true c.loop-t.invariant c.gather_triangle.ensures

pub shape_of-work : goal.shape_of-work
shape_of-work c = c.loop-t.invariant.same_length

pub returns : goal.returns
returns c = let e : c.loop-t.t ≡ c.args.p.triangles = omega arith in rw e at c.loop-t.invariant
