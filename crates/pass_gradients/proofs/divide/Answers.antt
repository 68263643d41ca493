-- `pass_gradients::divide` meets its contract: the loop keeps what the invariant says; the laws are in proofs/Means.
use native.Mathlib.Omega.{arith}
use borrow.Author.Rules.{rules}
use Rattle.pass_gradients.proofs.Means.{to_none, to-more, to-found, to-done}
use Rattle.pass_gradients.proofs.divide.Goals as goal

pub loop-v-init : goal.loop-v-init
loop-v-init c = to_none _ _ _

pub divide_point-requires : goal.divide_point-requires
divide_point-requires c = (c.loop-v-test.true, omega (arith, c.loop-v.invariant.means.same_length))

pub loop-v-preserved : goal.loop-v-preserved
loop-v-preserved c = to-more c.loop-v-test.true c.requires c.loop-v.invariant c.in_ok-divide_point.was c.divide_point.ensures

pub shape_of-work-in_err-divide_point : goal.shape_of-work-in_err-divide_point
shape_of-work-in_err-divide_point c =
    (to-found c.loop-v-test.true c.requires c.loop-v.invariant _ c.in_err-divide_point.was c.divide_point.ensures c.in_err-divide_point.was).means.same_length

pub returns-in_err-divide_point : goal.returns-in_err-divide_point
returns-in_err-divide_point c =
    to-found c.loop-v-test.true c.requires c.loop-v.invariant _ c.in_err-divide_point.was c.divide_point.ensures (search rules)

pub shape_of-work : goal.shape_of-work
shape_of-work c = c.loop-v.invariant.means.same_length

pub returns : goal.returns
returns c = to-done (omega arith) c.loop-v.invariant
