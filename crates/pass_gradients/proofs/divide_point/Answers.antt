-- `pass_gradients::divide_point` meets its contract: each return follows from the tests and the calls on its way.
use mathlib.Core.Path.{◌≡◌}
use borrow.Author.Rules.{rules}
use Rattle.std.specs.Prelude.{Err}
use Rattle.pass_gradients.proofs.Means.{point-refused, point-divided}
use Rattle.pass_gradients.proofs.divide_point.Goals as goal

pub returns-in_err-check_point : goal.returns-in_err-check_point
returns-in_err-check_point c =
    let r : c.from_residual.result ≡ Err c.in_err-check_point.field-0.0 = search rules in
    rw r (point-refused _ c.check_point.ensures c.in_err-check_point.was)

pub returns : goal.returns
returns c = point-divided c.check_point.ensures c.in_ok-check_point.was c.divide_at.ensures
