-- `pass_options::bad_boundary` meets its contract: each return opens the definition and rewrites it by the tests and the calls on its way.
use mathlib.Core.Path.{sym, ap, ◌∙◌}
use Rattle.pass_options.specs.Options.{bad_boundary}
use Rattle.pass_options.proofs.bad_boundary.Goals as goal

pub returns-in-None : goal.returns-in-None
returns-in-None c = sym (ap bad_boundary c.in-None.is)

pub returns-in-Tangent : goal.returns-in-Tangent
returns-in-Tangent c = sym (ap bad_boundary c.in-Tangent.is)

pub returns-in-Weak : goal.returns-in-Weak
returns-in-Weak c = c.not_finite_or_below_zero.ensures ∙ sym (ap bad_boundary c.in-Weak.is)
