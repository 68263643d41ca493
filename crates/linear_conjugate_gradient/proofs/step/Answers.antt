-- `linear_conjugate_gradient::step` meets its contract: each return opens the definition and rewrites it by the tests and the calls on its way; the laws are in proofs/Iterations.
use Rattle.linear_conjugate_gradient.proofs.Iterations.{step-converged, step-lost, step-going}
use Rattle.linear_conjugate_gradient.proofs.step.Goals as goal

pub returns-then-norm-limit : goal.returns-then-norm-limit
returns-then-norm-limit c =
    step-converged _ _ _ _ _ _ c.requires c.update-sums.ensures c.norm.ensures c.if-norm-limit.true c.advance.ensures

pub returns-then-not_positive : goal.returns-then-not_positive
returns-then-not_positive c =
    step-lost _ _ _ _ _ _ c.requires c.update-sums.ensures c.norm.ensures
    c.if-norm-limit.false c.not_positive.ensures
    c.if-not_positive.true c.advance-then-not_positive.ensures

pub returns : goal.returns
returns c =
    step-going _ _ _ _ _ _ c.requires c.update-sums.ensures c.norm.ensures c.if-norm-limit.false c.not_positive.ensures c.if-not_positive.false c.direct.ensures
