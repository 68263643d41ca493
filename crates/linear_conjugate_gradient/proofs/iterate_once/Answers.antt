-- `linear_conjugate_gradient::iterate_once` meets its contract: each return opens the definition and rewrites it by the tests and the calls on its way; the laws are in proofs/Iterations.
use Rattle.linear_conjugate_gradient.proofs.Iterations.{iteration-broken, iteration-stepped}
use Rattle.linear_conjugate_gradient.proofs.iterate_once.Goals as goal

pub multiply-denominator-requires : goal.multiply-denominator-requires
multiply-denominator-requires c = record { solver_room = c.requires.solver_room; graph = c.requires.graph; engine = c.requires.engine }

pub returns-then-not_positive : goal.returns-then-not_positive
returns-then-not_positive c = iteration-broken _ _ _ _ _ _ _ c.multiply-denominator.ensures c.not_positive.ensures c.if-not_positive.true

pub returns : goal.returns
returns c =
    iteration-stepped _ _ _ _ _ _ _ c.requires.solver_room c.multiply-denominator.ensures c.not_positive.ensures c.if-not_positive.false c.step.ensures
