-- `linear_conjugate_gradient::normalize_in_mass` meets its contract: each return opens the definition and rewrites it by the tests and the calls on its way; the laws are in proofs/Mass.
use Rattle.linear_conjugate_gradient.proofs.Mass.{normalize-not, normalize-done}
use Rattle.linear_conjugate_gradient.proofs.normalize_in_mass.Goals as goal

pub returns-then-not_positive : goal.returns-then-not_positive
returns-then-not_positive c =
    normalize-not _ _ _ _ _ c.requires.apply_room c.apply.ensures c.dot_re-squared.ensures c.not_positive.ensures c.if-not_positive.true

pub returns : goal.returns
returns c =
    normalize-done _ _ _ _ _ c.requires.apply_room c.apply.ensures c.dot_re-squared.ensures c.not_positive.ensures
    c.if-not_positive.false c.sqrt.ensures.value
    c.recip.ensures c.scale_by.ensures
